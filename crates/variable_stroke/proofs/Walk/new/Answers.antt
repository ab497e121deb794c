-- `variable_stroke::Walk::new` meets its contract: it is the definition. Assumes nothing.
use Rattle.variable_stroke.specs.Chains.{start_of}
use Rattle.variable_stroke.proofs.Walk.new.Goals as goal

pub returns : goal.returns
unfolding start_of
returns c = rw c.new.ensures
