-- `leaps::landing::hits` meets its contract: both coordinates must be met. Assumes nothing.
use Rattle.plane.proofs.Products.{short_back, small_back}
use Rattle.plane.proofs.Directions.{unit_short}
use Rattle.turning.proofs.Limits.{radius_told_lem}
use Rattle.leaps.proofs.Landed.{hits_both}
use Rattle.leaps.proofs.landing.hits.Goals as goal

pub meets-requires : goal.meets-requires
meets-requires c =
    let h = c.requires in
    (small_back h.0.centre.x, radius_told_lem h.0.radius, short_back (unit_short h.1).x, h.2)

pub meets-requires-then-meets : goal.meets-requires-then-meets
meets-requires-then-meets c =
    let h = c.requires in
    (small_back h.0.centre.y, radius_told_lem h.0.radius, short_back (unit_short h.1).y, h.2)

pub returns-then-meets : goal.returns-then-meets
returns-then-meets c =
    hits_both _ _ c.requires.0 c.requires.1 c.meets.ensures c.if-meets.true c.meets-then-meets.ensures
