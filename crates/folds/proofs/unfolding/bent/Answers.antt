-- `folds::unfolding::bent` meets its contract: where the table serves, its arc is the same. Assumes nothing.
use Rattle.runs.proofs.Laws.{runs_as}
use Rattle.folds.proofs.FoldByFold.{bow_axial}
use Rattle.folds.proofs.unfolding.bent.Goals as goal

pub returns-then-b-le402 : goal.returns-then-b-le402
returns-then-b-le402 c = runs_as (bow_axial _ _ c.requires.1 c.axial.ensures c.if-axial.true) c.half_bow.ensures
