-- `turning::turn::stops` meets its contract: directions are short, so the product is told exactly. Assumes nothing.
use Rattle.plane.proofs.Directions.{unit_short}
use Rattle.turning.proofs.Limits.{told}
use Rattle.turning.proofs.Cases.{stops_near, stops_not}
use Rattle.turning.proofs.turn.stops.Goals as goal

pub cross-requires : goal.cross-requires
cross-requires c = (unit_short c.requires.1, unit_short c.requires.2)

pub returns-then-cross-le0 : goal.returns-then-cross-le0
returns-then-cross-le0 c = stops_near _ _ _ (told c.cross.type_inv c.cross.ensures) c.near.ensures c.if-cross-le0.true

pub returns-else-cross-le0 : goal.returns-else-cross-le0
returns-else-cross-le0 c = stops_not _ _ _ (told c.cross.type_inv c.cross.ensures) c.if-cross-le0.false
