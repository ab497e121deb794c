-- `variable_stroke::Chain::new` meets its contract: it is the definition. Assumes nothing.
use mathlib.Core.Path.{refl}
use Rattle.variable_stroke.specs.Chains.{fresh_of}
use Rattle.variable_stroke.proofs.Chain.new.Goals as goal

pub returns : goal.returns
unfolding fresh_of
returns c = refl
