-- `folds::folding::put_direction` meets its contract: both components are stored as they are. Assumes nothing.
use Rattle.plane.proofs.Products.{short_back}
use Rattle.plane.proofs.Directions.{unit_short}
use Rattle.folds.proofs.folding.put_direction.Goals as goal

pub short-requires : goal.short-requires
short-requires c = short_back (unit_short c.requires.0).x

pub short-requires-2 : goal.short-requires-2
short-requires-2 c = short_back (unit_short c.requires.0).y
