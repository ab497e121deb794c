-- `folds::unfolding::point_of` meets its contract: each coordinate lands where the direction scaled by the radius moves the centre's. Assumes nothing.
use borrow.Author.Rules.{rules}
use Rattle.plane.proofs.Products.{short_back, small_back}
use Rattle.plane.proofs.Directions.{unit_short}
use Rattle.turning.proofs.Limits.{radius_back, heading_x, heading_y, point_landed}
use Rattle.folds.proofs.unfolding.point_of.Goals as goal

pub landed-requires : goal.landed-requires
landed-requires c =
    let h = c.requires in
    (small_back h.0.x, heading_x c.args.s h.2 (record { sfits = search rules }) h.3, (short_back (unit_short h.2).x).size, rw (radius_back h.1) h.1.high)

pub landed-requires-2 : goal.landed-requires-2
landed-requires-2 c =
    let h = c.requires in
    (small_back h.0.y, heading_y c.args.s h.2 (record { sfits = search rules }) h.3, (short_back (unit_short h.2).y).size, rw (radius_back h.1) h.1.high)

pub returns : goal.returns
returns c =
    let h = c.requires in
    point_landed _ _ _ h.0 h.1 h.2 c.landed.ensures c.landed-2.ensures
