-- `turning::turn::point_at` meets its contract: an offset is at most the radius, so each coordinate fits. Assumes nothing.
use mathlib.Core.Path.{refl}
use Rattle.plane.proofs.Products.{short_back, small_back, near_fits}
use Rattle.plane.proofs.Directions.{unit_short}
use Rattle.turning.proofs.Limits.{radius_back, offset_small, sum_near, point_back}
use Rattle.turning.proofs.turn.point_at.Goals as goal

pub scaled-requires : goal.scaled-requires
scaled-requires c = ((short_back (unit_short c.requires.2).x).size, rw (radius_back c.requires.1) c.requires.1.high)

pub overflow_add-result : goal.overflow_add-result
overflow_add-result c = near_fits (sum_near (small_back c.requires.0.x) (small_back (offset_small (unit_short c.requires.2).x c.requires.1 c.scaled.ensures)))

pub scaled-requires-2 : goal.scaled-requires-2
scaled-requires-2 c = ((short_back (unit_short c.requires.2).y).size, rw (radius_back c.requires.1) c.requires.1.high)

pub overflow_add-result-2 : goal.overflow_add-result-2
overflow_add-result-2 c = near_fits (sum_near (small_back c.requires.0.y) (small_back (offset_small (unit_short c.requires.2).y c.requires.1 c.scaled-2.ensures)))

pub returns : goal.returns
returns c = let h = c.requires in point_back _ _ _ h.0 h.1 h.2 c.scaled.ensures c.scaled-2.ensures refl refl
