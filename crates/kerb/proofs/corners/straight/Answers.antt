-- `kerb::corners::straight` meets its contract: directions are short, so both products are told exactly. Assumes nothing.
use Rattle.plane.proofs.Directions.{unit_short}
use Rattle.turning.proofs.Limits.{told}
use Rattle.kerb.proofs.CornerCases.{straight_first, straight_not}
use Rattle.kerb.proofs.corners.straight.Goals as goal

pub cross-requires : goal.cross-requires
cross-requires c = (unit_short c.requires.0, unit_short c.requires.1)

pub dot-requires : goal.dot-requires
dot-requires c = (unit_short c.requires.0, unit_short c.requires.1)

pub returns-then-cross-le0 : goal.returns-then-cross-le0
returns-then-cross-le0 c = straight_first _ _ (told c.cross.type_inv c.cross.ensures) (told c.dot.type_inv c.dot.ensures) c.if-cross-le0.true

pub returns-else-cross-le0 : goal.returns-else-cross-le0
returns-else-cross-le0 c = straight_not _ _ (told c.cross.type_inv c.cross.ensures) c.if-cross-le0.false
