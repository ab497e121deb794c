-- `folds::unfolding::width` meets its contract, case by case. Assumes nothing.
use Rattle.folds.proofs.FoldByFold.{width_straight, width_bent}
use Rattle.folds.proofs.unfolding.width.Goals as goal

pub returns-in-Straight : goal.returns-in-Straight
returns-in-Straight c = width_straight c.in-Straight.is

pub returns-in-Bent : goal.returns-in-Bent
returns-in-Bent c = width_bent c.in-Bent.is
