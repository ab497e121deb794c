-- What keep makes of a kerb: the rows' refusal, or the outline where the rows of writing let it; and its promise allows one outcome. Assumes nothing.
use Rattle.std.specs.Prelude.{Result, Err}
use mathlib.Core.Path.{◌≡◌, sym, ap, ◌∙◌}
use mathlib.Core.List.{List, []}
use Prim.Native.Nat.{ℕ}
use lib.IntN.{ℤ, pos}
use lib.ListN.{length}
use Rattle.turning.specs.Bounds.{Radius}
use Rattle.paths.specs.Paths.{Within}
use Rattle.kerb.specs.Styles.{style_of}
use Rattle.kerb.specs.declared.Style.{Style}
use Rattle.kerb.proofs.StyleNumbers.{style_radius}
use Rattle.kerb_paths.specs.Points.{kerb_path}
use Rattle.outline.specs.Outlines.{outline_bytes}
use Rattle.outline.specs.declared.Form.TheVariants.{Kerb}
use Rattle.replies.specs.Replies.{written}
use Rattle.replies.specs.Refusals.{refusal_of, reply_of}
use Rattle.replies.specs.declared.Refusal.{Refusal}
use Rattle.replies.proofs.OneOutcome.{one_answer}
use Rattle.replies.proofs.Rows.{rows_append, refused_written, empty_passes, room_enough}
use Rattle.kerb_rows.specs.KerbRows.{kerb_rows, KerbFits, KerbSays}
use Rattle.kerb_rows.proofs.KerbChecks.{within_passes, kerb_refuses, path_told}
use Rattle.keeping.specs.Keeping.{write_rows}
use Rattle.keeping.specs.Rewriting.{Rewrites}
use Rattle.keeping.proofs.KeepAnswers.{no_zeros}
use Rattle.kerb_keeping.specs.KerbKeeping.{kerb_form, kerb_bytes, keep_kerb_reply, keep_kerb_out, KeepsKerb, KerbIsKept, OneKerbKeeping}

module _ (l : List ℤ) {g r j c n : ℕ} (h : KerbFits l g r j c n) {y : Style} (e : y ≡ style_of r j c) where
  -- the points with the style's radius, as the code has them
  pub kerb_held : (n ≡ length (kerb_path y.radius l)) × Within g (kerb_path y.radius l) × Radius y.radius
  kerb_held =
      let p = path_told l r j c e in
      (h.count ∙ ap length (sym p), rw p h.within, style_radius r j c h.radius e)

  pub kerb_keeps : {out out₁ : List ℕ} {a : Result ℕ Refusal} → Rewrites out (Kerb y) g [] (kerb_path y.radius l) 0 a out₁ → KeepsKerb l g r j c out a out₁
  unfolding keep_kerb_reply keep_kerb_out kerb_bytes
  kerb_keeps {out} {a = a} w =
      let p = path_told l r j c e in
      let q = rw (p, e) at w in
      let new = kerb_bytes l g r j c in
      let k : reply_of a ≡ keep_kerb_reply l g r j c (length out) = q.reply ∙ sym (rows_append (kerb_rows l g r j c) _ (0, length new) ∙ h.passed _) in
      record { reply = k; out = q.bytes ∙ (λ i. written (k i) (no_zeros new i) out) }

pub kerb_keeps_refused : (l : List ℤ) {g r j c : ℕ} (out : List ℕ) {x : Refusal} → KerbSays l g r j c (Err x) → KeepsKerb l g r j c out (Err x) out
unfolding keep_kerb_reply keep_kerb_out
kerb_keeps_refused l {g} {r} {j} {c} out {x} s =
    let k : refusal_of x ≡ keep_kerb_reply l g r j c (length out) = kerb_refuses l _ _ s in
    record { reply = k; out = refused_written x (kerb_bytes l g r j c) out k }

pub kerb_is_kept : KerbIsKept
unfolding keep_kerb_reply write_rows kerb_bytes
kerb_is_kept l g r j c room h low s w some k =
    let m = length (outline_bytes (kerb_form r j c) g [] (kerb_path (pos r) l)) in
    rows_append (kerb_rows l g r j c) _ _ ∙ (within_passes l h low s w).passed _ ∙ empty_passes _ _ _ (0, m) some ∙ room_enough m room m (0, m) k

pub one_kerb_keeping : OneKerbKeeping
one_kerb_keeping l g r j c out a b o p h k = (one_answer a b (h.reply ∙ sym k.reply), h.out ∙ sym k.out)
