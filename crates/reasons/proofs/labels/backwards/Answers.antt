-- `reasons::labels::backwards` meets its contract: each end is told as the other. Assumes nothing.
use mathlib.Core.Path.{refl}
use Rattle.reasons.specs.Reasons.{backward}
use Rattle.reasons.proofs.labels.backwards.Goals as goal

pub returns : goal.returns
unfolding backward
returns c = refl
