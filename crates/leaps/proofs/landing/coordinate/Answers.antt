-- `leaps::landing::coordinate` meets its contract: an offset is at most the radius, so the coordinate fits. Assumes nothing.
use mathlib.Core.Path.{refl}
use Rattle.plane.proofs.Products.{small_back, near_fits}
use Rattle.turning.proofs.Limits.{sum_near, offset_small, moved_back}
use Rattle.leaps.proofs.landing.coordinate.Goals as goal

pub overflow_add-result : goal.overflow_add-result
overflow_add-result c =
    let h = c.requires in
    near_fits (sum_near (small_back h.0) (small_back (offset_small h.2 h.1 c.scaled.ensures)))

pub returns : goal.returns
returns c =
    let h = c.requires in
    moved_back _ _ _ h.0 h.2 h.1 c.scaled.ensures refl
