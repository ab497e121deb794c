-- `leaps::leaps::long` meets its contract: what is that near is no shorter than by as much. Assumes nothing.
use Rattle.plane.proofs.Directions.{unit_short}
use Rattle.leaps.proofs.LeapTests.{long_told}
use Rattle.leaps.proofs.leaps.long.Goals as goal

pub square-requires : goal.square-requires
square-requires c = unit_short c.requires.0

pub returns : goal.returns
returns c = long_told _ _ c.square.ensures
