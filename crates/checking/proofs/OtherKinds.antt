-- The row of the calls that take kind 0 alone, by the form of a store that passed its header's rows. Assumes nothing.
use mathlib.Core.Path.{◌≡◌, refl, sym, ap, ◌∙◌}
use mathlib.Core.Bool.{false}
use mathlib.Core.List.{List, ◌++◌, ◌∷◌}
use Prim.Native.Nat.{ℕ}
use Rattle.contacts.specs.declared.Vertex.{Vertex}
use Rattle.kerb.specs.declared.Style.{Style}
use Rattle.outline.specs.Theorems.{Formed}
use Rattle.outline.specs.Layout.{kind_word}
use Rattle.outline.specs.Outlines.{header_of, parts_words, outline_words, outline_bytes}
use Rattle.outline.specs.Stores.{edition_in, kind_in, edition_of, form_in}
use Rattle.outline.specs.declared.Edition.{Edition}
use Rattle.outline.specs.declared.Form.{Form}
use Rattle.outline.specs.declared.Form.TheVariants.{Stroke, Kerb}
use Rattle.outline.proofs.ReadBack.{header_word}
use Rattle.replies.specs.Replies.{Reply, Row, first_row}
use Rattle.heading.specs.Heads.{Head}
use Rattle.heading.specs.declared.Header.{Header}
use Rattle.checking.specs.OtherKind.{other_kind_row}

module _ {s : List ℕ} {h : Header} (H : Head s h) where
  kind_of_lem : {f : Form} → h.form ≡ f → kind_in s ≡ kind_word f
  kind_of_lem e = H.headed.kind ∙ ap kind_word (sym H.form ∙ e)

  -- of a stroke it fails, of a kerb it is the reply
  pub stroke_passes : (rows : List Row) (last : Reply) {e : Edition} → h.form ≡ Stroke e → first_row (other_kind_row s ∷ rows) last ≡ first_row rows last
  unfolding first_row other_kind_row
  stroke_passes rows last e = rw (kind_of_lem e, first_row)

  pub kerb_refused : {y : Style} (rows : List Row) (last : Reply) → h.form ≡ Kerb y → (12, 1) ≡ first_row (other_kind_row s ∷ rows) last
  unfolding first_row other_kind_row
  kerb_refused rows last e = rw (kind_of_lem e, first_row) (ap (λ (n : ℕ). (12, n)) (sym (kind_of_lem e)))

-- where it failed a store is of a stroke
pub not_other : (s : List ℕ) → (other_kind_row s).0 ≡ false → form_in s ≡ Stroke (edition_of (edition_in s))
unfolding form_in other_kind_row
not_other s e = rw (e, form_in)

-- and of what is kept of a stroke it fails
pub kept_stroke : (e : Edition) (g : ℕ) (ps : List ℕ) (vs : List Vertex) (rest : List ℕ) → Formed (Stroke e) g ps vs → (other_kind_row (outline_bytes (Stroke e) g ps vs ++ rest)).0 ≡ false
unfolding other_kind_row kind_in outline_words parts_words header_of
kept_stroke e g ps vs rest h = rw (header_word (Stroke e) g ps vs rest h 1) refl
