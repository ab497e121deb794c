-- A path within the limits is kept in room enough, since every row fails; and after the reply 0 every row failed, so what stands in the room is its
-- outline, whatever room it is. Assumes nothing.
use mathlib.Core.Path.{◌≡◌, refl, sym, ap, ◌∙◌}
use mathlib.Core.List.{List, ◌++◌}
use Prim.Native.Nat.{ℕ, ◌%◌, ◌≤◌, ◌<◌}
use native.Mathlib.Nat.{le_antisymm}
use native.Mathlib.Omega.{arith}
use borrow.Author.Tests.{eqb-true, ltb-false, not-false}
use lib.IntN.{ℤ}
use lib.ListN.{length, drop, take}
use lib.Seq.{take_at}
use Rattle.contacts.proofs.Allowed.{outside_most}
use Rattle.paths.specs.Paths.{path_of, edges_of, Within}
use Rattle.outline.specs.Outlines.{outline_bytes}
use Rattle.outline.specs.declared.Edition.TheVariants.{Second}
use Rattle.outline.specs.declared.Form.TheVariants.{Stroke}
use Rattle.replies.specs.Replies.{Reply, triples_row, draw_grade_row, count_row, outside_row, empty_row, room_row, path_rows, written}
use Rattle.replies.proofs.Rows.{NoneHold, first-none, rows_append, grade_from, empty_passes, empty_not, room_enough}
use Rattle.replies.proofs.PathChecks.{within_fits}
use Rattle.keeping.specs.Keeping.{write_rows, keep_reply, keep_out, PathIsKept, OneOutlineKept}

pub path_is_kept : PathIsKept
unfolding keep_reply write_rows
path_is_kept path ps g room h low w s l =
    let m = length (outline_bytes (Stroke Second) g ps (path_of path)) in
    rows_append (path_rows path g) _ _ ∙ (within_fits path h low w).passed _ ∙ empty_passes (length (path_of path)) (length (edges_of g (path_of path))) _ (0, m) s ∙ room_enough m room m (0, m) l

-- ---- after the reply 0

module _ (path : List ℤ) (ps : List ℕ) (g room : ℕ) (h : (keep_reply path ps g room).0 ≡ 0) where
  keep_none : NoneHold (path_rows path g ++ write_rows (Stroke Second) g ps (path_of path) room)
  unfolding keep_reply write_rows path_rows triples_row draw_grade_row count_row outside_row empty_row room_row
  keep_none = first-none _ _ (refl, (refl, (refl, (refl, (refl, (refl, tt)))))) h

  pub keep_triples : length path % 3 ≡ 0
  unfolding path_rows triples_row
  keep_triples = eqb-true _ _ (not-false _ keep_none.0)

  pub keep_graded : (2 ≤ g) × (g ≤ 8)
  unfolding path_rows
  keep_graded = grade_from g keep_none.1.0

  pub keep_within : Within g (path_of path)
  unfolding path_rows count_row outside_row
  keep_within =
      let r = keep_none in
      record { low = omega (arith, keep_graded.0); high = keep_graded.1; count = ltb-false _ _ r.1.1.0; inside = le_antisymm (outside_most (path_of path)) (ltb-false _ _ r.1.1.1.0) }

  keep_room : length (outline_bytes (Stroke Second) g ps (path_of path)) ≤ room
  unfolding path_rows write_rows room_row
  keep_room = ltb-false _ _ keep_none.1.1.1.1.1.0

  keep_some : 0 < length (path_of path) → 0 < length (edges_of g (path_of path))
  unfolding path_rows write_rows
  keep_some = empty_not _ _ keep_none.1.1.1.1.0

pub keep_out_lem : (path : List ℤ) (ps : List ℕ) (g : ℕ) (out : List ℕ) → (keep_reply path ps g (length out)).0 ≡ 0 → keep_out path ps g out ≡ outline_bytes (Stroke Second) g ps (path_of path) ++ drop (length (outline_bytes (Stroke Second) g ps (path_of path))) out
unfolding keep_out written
keep_out_lem path ps g out h = rw (h, written)

pub one_outline_kept : OneOutlineKept
one_outline_kept path ps g m a b e l =
    let h : (keep_reply path ps g (length a)).0 ≡ 0 = ap (λ (r : Reply). r.0) e in
    let made = outline_bytes (Stroke Second) g ps (path_of path) in
    let kept : (room : ℕ) → length made ≤ room → keep_reply path ps g room ≡ (0, length made) =
    λ room. path_is_kept path ps g room (keep_triples path ps g (length a) h) (keep_graded path ps g (length a) h).0 (keep_within path ps g (length a) h) (keep_some path ps g (length a) h) in
    let n : length made ≡ m = ap (λ (r : Reply). r.1) (sym (kept (length a) (keep_room path ps g (length a) h)) ∙ e) in
    let f : keep_reply path ps g (length b) ≡ (0, m) = kept (length b) (omega arith) ∙ ap (λ (x : ℕ). (0, x)) n in (
      f,
      ap (take m) (keep_out_lem path ps g b (ap (λ (r : Reply). r.0) f)) ∙ take_at made _ m n ∙ sym (ap (take m) (keep_out_lem path ps g a h) ∙ take_at made _ m n),
    )
