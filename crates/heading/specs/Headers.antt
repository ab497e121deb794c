-- Document 02, request 3: the calls that take kind 0 alone.
use Rattle.std.specs.Prelude.{◌≡◌, Result, MatchResult}
use Rattle.kerb.specs.declared.Style.{Style}
use Rattle.outline.specs.Layout.{kerb_kind}
use Rattle.outline.specs.declared.Edition.{Edition}
use Rattle.outline.specs.declared.Form.{Form}
use Rattle.outline.specs.declared.Form.TheVariants.{Stroke, Kerb}
use Rattle.replies.specs.declared.Refusal.{Refusal}
use Rattle.replies.specs.declared.Refusal.TheVariants.{OtherKind}

-- a kerb's refusal
abbrev pub KerbRefused : Form → Refusal → Type 0
KerbRefused form refusal = (refusal ≡ OtherKind kerb_kind) × ((style : Style) × (form ≡ Kerb style))

-- a stroke's edition, or a kerb's refusal
abbrev pub StrokeAlone : Form → Result Edition Refusal → Type 0
StrokeAlone form told = MatchResult told (λ edition. form ≡ Stroke edition) (KerbRefused form)
