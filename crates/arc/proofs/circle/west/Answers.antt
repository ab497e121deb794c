-- `arc::circle::west` meets its contract: within the limits the difference fits. Assumes nothing.
use mathlib.Core.Path.{refl}
use Rattle.turning.proofs.Limits.{west_fits, west_back}
use Rattle.arc.proofs.circle.west.Goals as goal

pub overflow_sub-result : goal.overflow_sub-result
overflow_sub-result c = west_fits c.requires.0.x c.requires.1

pub returns : goal.returns
returns c = west_back _ _ c.requires.0 c.requires.1 refl
