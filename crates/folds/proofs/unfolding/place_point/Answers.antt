-- `folds::unfolding::place_point` meets its contract: each number is stored as it is, in its place. Assumes nothing.
use mathlib.Core.Path.{refl}
use Rattle.turning.proofs.Stored.{point_stored}
use Rattle.folds.proofs.unfolding.place_point.Goals as goal

pub returns : goal.returns
returns c = point_stored _ c.requires.0 c.narrow.ensures c.narrow-2.ensures refl refl
