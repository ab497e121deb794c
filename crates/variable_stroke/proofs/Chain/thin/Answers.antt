-- `variable_stroke::Chain::thin` meets its contract: the mark set, and nothing else. Assumes nothing.
use mathlib.Core.Path.{refl}
use Rattle.variable_stroke.proofs.ChainSteps.{marked_is}
use Rattle.variable_stroke.proofs.Chain.thin.Goals as goal

pub returns : goal.returns
returns c = record { chain = marked_is _ _; at = refl }
