-- `run_numbers::answer::unit` meets its contract: the square was tested. Assumes nothing.
use Rattle.run_numbers.proofs.Guards.{sizes_unit}
use Rattle.run_numbers.proofs.answer.unit.Goals as goal

pub returns : goal.returns
returns c = let v = c.vector.ensures in sizes_unit _ v.0 v.1 c.if-x-y-gt1152921504606846976.false
