-- `folds::folding::fold` meets its contract: an arc of three edges or more is folded, any other stands edge by edge. Assumes nothing.
use Rattle.turning.proofs.Reach.{turns_reach}
use Rattle.folds.proofs.Laid.{lays_runs}
use Rattle.folds.proofs.folding.fold.Goals as goal

pub returns-in_default : goal.returns-in_default
returns-in_default c = let h = c.requires.turns in lays_runs (turns_reach 1536 _ _ _ h.0 h.1 h.2) c.turns.ensures
