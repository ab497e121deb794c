-- A converted store byte for byte: the outline that keeping writes, zeros, and the rest as it was. Assumes nothing.
use mathlib.Core.Path.{◌≡◌, refl, sym, ap, subst, ◌∙◌}
use mathlib.Core.List.{List, [], ◌∷◌, ◌++◌, append_assoc}
use Prim.Native.Nat.{ℕ, ◌+◌, ◌<◌}
use native.Mathlib.Omega.{arith}
use lib.IntN.{pos}
use lib.ListN.{length, take, drop, replicate, length-append, length-replicate}
use lib.Seq.{take_at, drop_at}
use Rattle.runs.specs.Runs.{spread}
use Rattle.paths.specs.Paths.{path_of, path_numbers}
use Rattle.kerb.specs.Styles.{style_of}
use Rattle.kerb.proofs.StyleNumbers.{style_radius}
use Rattle.kerb_paths.specs.Points.{kerb_path}
use Rattle.outline.specs.Outlines.{edges_for, outline_bytes}
use Rattle.outline.specs.Stores.{path_in, posts_in}
use Rattle.outline.specs.declared.Edition.TheVariants.{Second}
use Rattle.outline.specs.declared.Form.{Form}
use Rattle.outline.specs.declared.Form.TheVariants.{Stroke}
use Rattle.outline.proofs.ReadBack.{numbers_count}
use Rattle.replies.specs.Replies.{Reply, draw_grade_row}
use Rattle.replies.proofs.Rows.{rows_append, first_skip, grade_drawn, room_enough}
use Rattle.replies.proofs.StyleFaults.{faultless}
use Rattle.heading.specs.Shows.{point_numbers}
use Rattle.heading.specs.StoreRows.{store_rows}
use Rattle.heading.proofs.Shown.{path_back}
use Rattle.checking.proofs.StorePassed.{kerb_suits}
use Rattle.keeping.specs.Keeping.{keep_reply, keep_out}
use Rattle.keeping.proofs.PathKept.{path_is_kept, keep_out_lem}
use Rattle.kerb_keeping.specs.KerbKeeping.{kerb_bytes, keep_kerb_reply, keep_kerb_out}
use Rattle.kerb_keeping.proofs.KerbAnswers.{kerb_is_kept}
use Rattle.kerb_keeping.proofs.KerbKept.{kerb_out}
use Rattle.converting.specs.Converting.{converted_of, convert_reply, convert_out, SoundConverts, ConvertedBytes, ConvertedIsKept, ConvertedKerbIsKept}
use Rattle.converting.proofs.ConvertRows.{points_again, pairs_count}
use Rattle.converting.proofs.SoundAgain.{grade_named, convert_long, formed_at, converted_out}

pub sound_converts : SoundConverts
unfolding convert_reply
sound_converts s g h low high l =
    let m = length (converted_of s g) in
    rows_append (store_rows s) _ _ ∙ h _ ∙ first_skip (draw_grade_row g ∷ []) _ _ (grade_drawn low high, tt) ∙ room_enough m (length s) m (0, m) l

-- the reply is 0, and its number the outline's length
module _ (s : List ℕ) (g m : ℕ) (e : convert_reply s g ≡ (0, m)) where
  zero_replied : (convert_reply s g).0 ≡ 0
  zero_replied = ap (λ (r : Reply). r.0) e

  long : length (converted_of s g) ≡ m
  long = ap (λ (r : Reply). r.1) (sym (convert_long s g zero_replied) ∙ e)

  begins : take m (convert_out s g) ≡ converted_of s g
  begins = ap (take m) (converted_out s g zero_replied) ∙ take_at (converted_of s g) _ m long

pub converted_bytes : ConvertedBytes
unfolding converted_of
converted_bytes s g m z e f =
    let new = converted_of s g in
    let zeros = replicate {A = ℕ} z 0 in
    let n = long s g m e in
    let o : convert_out s g ≡ new ++ (zeros ++ drop (length (new ++ zeros)) s) = rw (f, ← n) (converted_out s g (zero_replied s g m e)) in
    let t : length (new ++ zeros) ≡ m + z = omega (arith, length-append new zeros, length-replicate {A = ℕ} z 0, n) in (
      begins s g m e,
      ap (λ (x : List ℕ). take z (drop m x)) o ∙ ap (take z) (drop_at new _ m n) ∙ take_at zeros _ z (length-replicate {A = ℕ} z 0),
      ap (drop (m + z)) (o ∙ sym (append_assoc new zeros _)) ∙ drop_at (new ++ zeros) _ (m + z) t ∙ ap (λ (x : ℕ). drop x s) t,
    )

pub converted_is_kept : ConvertedIsKept
unfolding converted_of
converted_is_kept s g m room e l some f =
    let h = zero_replied s g m e in
    let new = converted_of s g in
    let vs = path_in s in
    let path = path_numbers vs in
    let ps = posts_in s in
    let n : length new ≡ m = long s g m e in
    let p : path_of path ≡ vs = path_back vs in
    let b : outline_bytes (Stroke Second) g ps (path_of path) ≡ new = λ i. outline_bytes (sym f i) g ps (p i) in
    let any = subst (λ (x : Form). 0 < length vs → 0 < length (edges_for x g vs)) f some in
    let kr : keep_reply path ps g (length room) ≡ (0, m) =
    path_is_kept path ps g (length room) (omega (arith, numbers_count vs)) (grade_named s g h).0 (rw p (formed_at s g h).0) (rw p any) (omega (arith, ap length b, n, l))
    ∙ ap (λ (x : ℕ). (0, x)) (ap length b ∙ n) in
    let ko : keep_out path ps g room ≡ new ++ drop (length new) room = rw b at (keep_out_lem path ps g room (ap (λ (r : Reply). r.0) kr)) in
    (kr, begins s g m e ∙ sym (ap (take m) ko ∙ take_at new _ m n))

pub converted_kerb_is_kept : ConvertedKerbIsKept
unfolding converted_of kerb_bytes style_of
converted_kerb_is_kept s g r j c m room e l some z f =
    let h = zero_replied s g m e in
    let new = converted_of s g in
    let vs = path_in s in
    let points = spread point_numbers vs in
    let n : length new ≡ m = long s g m e in
    let u = kerb_suits s (style_of r j c) f (style_radius r j c {y = style_of r j c} (faultless r j c z).0 refl) in
    let p : kerb_path (pos r) points ≡ vs = points_again (pos r) vs u.1 in
    let b : kerb_bytes points g r j c ≡ new = λ i. outline_bytes (sym f i) g (sym u.2 i) (p i) in
    let any = subst (λ (x : Form). 0 < length vs → 0 < length (edges_for x g vs)) f some in
    let kr : keep_kerb_reply points g r j c (length room) ≡ (0, m) =
    kerb_is_kept points g r j c (length room) (omega (arith, pairs_count vs)) (grade_named s g h).0 z (rw p (formed_at s g h).0) (rw p any) (omega (arith, ap length b, n, l))
    ∙ ap (λ (x : ℕ). (0, x)) (ap length b ∙ n) in
    let ko : keep_kerb_out points g r j c room ≡ new ++ drop (length new) room = rw b at (kerb_out points g r j c room (ap (λ (x : Reply). x.0) kr)) in
    (kr, begins s g m e ∙ sym (ap (take m) ko ∙ take_at new _ m n))
