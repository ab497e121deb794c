-- After the reply 0 every row of keeping a kerb failed, so its form, grade and points are within the limits, and its outline stands in the room. Assumes nothing.
use mathlib.Core.Path.{◌≡◌, refl}
use mathlib.Core.List.{List, [], ◌∷◌, ◌++◌}
use Prim.Native.Nat.{ℕ, ◌%◌, ◌≤◌}
use native.Mathlib.Nat.{le_antisymm}
use native.Mathlib.Omega.{arith}
use borrow.Author.Tests.{eqb-true, ltb-false, not-false}
use lib.IntN.{ℤ, pos}
use lib.ListN.{length, drop}
use Rattle.contacts.proofs.Allowed.{outside_most}
use Rattle.kerb.specs.Styles.{style_of}
use Rattle.kerb.proofs.StyleNumbers.{style_radius}
use Rattle.kerb_paths.specs.Points.{kerb_path}
use Rattle.outline.specs.Theorems.{AllRadius, Formed}
use Rattle.replies.specs.Replies.{draw_grade_row, count_row, outside_row, empty_row, room_row, written}
use Rattle.replies.specs.StyleRows.{style_fault, style_row}
use Rattle.replies.proofs.Rows.{NoneHold, first-none, grade_from}
use Rattle.replies.proofs.StyleFaults.{faultless}
use Rattle.kerb_rows.specs.KerbRows.{pairs_row, kerb_rows}
use Rattle.keeping.specs.Keeping.{write_rows}
use Rattle.kerb_keeping.specs.KerbKeeping.{kerb_form, kerb_bytes, keep_kerb_reply, keep_kerb_out}

all_radius : (r : ℤ) (l : List ℤ) → AllRadius r (kerb_path r l)
unfolding kerb_path
all_radius r [] = tt
all_radius r (x ∷ []) = tt
all_radius r (x ∷ y ∷ l) = (refl, all_radius r l)

module _ (l : List ℤ) (g r j c room : ℕ) (h : (keep_kerb_reply l g r j c room).0 ≡ 0) where
  pub kerb_none : NoneHold (kerb_rows l g r j c ++ write_rows (kerb_form r j c) g [] (kerb_path (pos r) l) room)
  unfolding keep_kerb_reply write_rows kerb_rows pairs_row draw_grade_row style_row count_row outside_row empty_row room_row
  kerb_none = first-none _ _ (refl, (refl, (refl, (refl, (refl, (refl, (refl, tt))))))) h

  pub kerb_pairs : length l % 2 ≡ 0
  unfolding kerb_rows pairs_row
  kerb_pairs = eqb-true _ _ (not-false _ kerb_none.0)

  pub kerb_formed : Formed (kerb_form r j c) g [] (kerb_path (pos r) l)
  unfolding kerb_rows style_row count_row outside_row style_of
  kerb_formed =
      let n = kerb_none in
      let e = grade_from g n.1.0 in
      let f : style_fault r j c ≤ 0 = ltb-false _ _ n.1.1.0 in
      let z : style_fault r j c ≡ 0 = omega (arith, f) in
      let vs = kerb_path (pos r) l in (
        record { low = omega (arith, e.0); high = e.1; count = ltb-false _ _ n.1.1.1.0; inside = le_antisymm (outside_most vs) (ltb-false _ _ n.1.1.1.1.0) },
        (style_radius r j c {y = style_of r j c} (faultless r j c z).0 refl, all_radius (pos r) l, refl),
      )

pub kerb_out : (l : List ℤ) (g r j c : ℕ) (out : List ℕ) → (keep_kerb_reply l g r j c (length out)).0 ≡ 0 → keep_kerb_out l g r j c out ≡ kerb_bytes l g r j c ++ drop (length (kerb_bytes l g r j c)) out
unfolding keep_kerb_out written
kerb_out l g r j c out h = rw (h, written)
