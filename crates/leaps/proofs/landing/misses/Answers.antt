-- `leaps::landing::misses` meets its contract: one coordinate that is missed will do. Assumes nothing.
use Rattle.plane.proofs.Products.{short_back, small_back}
use Rattle.plane.proofs.Directions.{unit_short}
use Rattle.turning.proofs.Limits.{radius_told_lem}
use Rattle.leaps.proofs.Landed.{misses_x, misses_y}
use Rattle.leaps.proofs.landing.misses.Goals as goal

pub passes-requires : goal.passes-requires
passes-requires c =
    let h = c.requires in
    (small_back h.0.centre.x, radius_told_lem h.0.radius, short_back (unit_short h.1).x, h.2)

pub returns-then-passes : goal.returns-then-passes
returns-then-passes c =
    misses_x _ _ c.requires.0 c.requires.1 c.passes.ensures c.if-passes.true

pub passes-requires-else-passes : goal.passes-requires-else-passes
passes-requires-else-passes c =
    let h = c.requires in
    (small_back h.0.centre.y, radius_told_lem h.0.radius, short_back (unit_short h.1).y, h.2)

pub returns-else-passes : goal.returns-else-passes
returns-else-passes c =
    misses_y _ _ c.requires.0 c.requires.1 c.passes-else-passes.ensures
