-- `joins::builder_join::along` meets its contract: it is the definition. Assumes nothing.
use Rattle.joins.specs.Joins.{along_of}
use Rattle.joins.proofs.builder_join.along.Goals as goal

pub returns : goal.returns
unfolding along_of
returns c = c.from_to.ensures
