-- `arc::circle::east` meets its contract: within the limits the sum fits. Assumes nothing.
use mathlib.Core.Path.{refl}
use Rattle.turning.proofs.Limits.{east_fits, east_back}
use Rattle.arc.proofs.circle.east.Goals as goal

pub overflow_add-result : goal.overflow_add-result
overflow_add-result c = east_fits c.requires.0.x c.requires.1

pub returns : goal.returns
returns c = east_back _ _ c.requires.0 c.requires.1 refl
