-- `leaps::counting::stays` meets its contract: components that lie far apart give different points, and the others' points are compared. Assumes nothing.
use mathlib.Core.Path.{refl, sym, ◌∙◌}
use borrow.Author.Tests.{le-leb, ltb-false}
use Rattle.plane.proofs.Products.{same_told}
use Rattle.leaps.proofs.Distinct.{told_x, told_y, same_places}
use Rattle.leaps.proofs.counting.stays.Goals.{then-abs_diff-l, else-abs_diff-l}
use Rattle.leaps.proofs.counting.stays.Goals as goal

pub returns-then-abs_diff-l-2 : goal.returns-then-abs_diff-l-2
returns-then-abs_diff-l-2 c = same_places c.args.r _ _ c.requires.0.radius c.point_at.ensures c.point_at-then-abs_diff-l-2.ensures (same_told _ _ c.eq.ensures)

pub returns-else-abs_diff-l-2 : goal.returns-else-abs_diff-l-2
returns-else-abs_diff-l-2 c =
    elim c.if-abs_diff-l.branch [
      | then-abs_diff-l w ↦ c.if-abs_diff-l-2.false
          ∙ told_y _ _ _ _ _ c.requires.0.radius c.requires.1 c.requires.2 c.requires.3 (sym (le-leb _ _ (rw w.abs_diff-then-abs_diff-l.ensures at (ltb-false _ _ (sym w.value-is ∙ c.if-abs_diff-l-2.false))))) refl
      | else-abs_diff-l w ↦ c.if-abs_diff-l-2.false
          ∙ told_x _ _ _ _ _ c.requires.0.radius c.requires.1 c.requires.2 c.requires.3 (sym (le-leb _ _ (rw c.abs_diff.ensures at w.if-abs_diff-l.false))) refl
    ]
