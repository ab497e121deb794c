-- `leaps::landing::passes` meets its contract: the coordinates lie between those of the lowest and the highest component. Assumes nothing.
use Rattle.leaps.proofs.Landed.{passes_low, passes_high}
use Rattle.leaps.proofs.landing.passes.Goals as goal

pub returns-then-to-coordinate : goal.returns-then-to-coordinate
returns-then-to-coordinate c =
    passes_low _ _ _ _ c.requires.0 c.requires.1 c.requires.2 c.ranges.to c.lowest.ensures c.coordinate.type_inv c.coordinate.ensures c.if-to-coordinate.true

pub returns-else-to-coordinate : goal.returns-else-to-coordinate
returns-else-to-coordinate c =
    passes_high _ _ _ _ c.requires.0 c.requires.1 c.requires.2 c.ranges.to c.highest.ensures c.coordinate-else-to-coordinate.type_inv c.coordinate-else-to-coordinate.ensures
