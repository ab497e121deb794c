-- `leaps::landing::meets` meets its contract: the coordinates lie between those of the lowest and the highest component. Assumes nothing.
use borrow.Author.Tests.{ne_eqb}
use Rattle.leaps.proofs.Landed.{meets_both, meets_none}
use Rattle.leaps.proofs.landing.meets.Goals as goal

pub returns-then-coordinate-to : goal.returns-then-coordinate-to
returns-then-coordinate-to c =
    meets_both _ _ _ _ c.requires.0 c.requires.1 c.requires.2 c.ranges.to c.lowest.ensures c.coordinate.type_inv c.coordinate.ensures c.highest.ensures c.coordinate-then-coordinate-to.type_inv c.coordinate-then-coordinate-to.ensures c.if-coordinate-to.true

pub returns-else-coordinate-to : goal.returns-else-coordinate-to
returns-else-coordinate-to c = meets_none (ne_eqb _ _ c.if-coordinate-to.false)
