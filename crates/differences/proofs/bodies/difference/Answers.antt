-- `differences::bodies::difference` meets its contract: what is told of the count and of the edges, added. Assumes nothing.
use native.Mathlib.Omega.{arith}
use Rattle.differences.proofs.EdgesCompared.{count_small, both_told}
use Rattle.differences.proofs.bodies.difference.Goals as goal

pub overflow_add-result : goal.overflow_add-result
overflow_add-result c = omega (arith, c.count_number.ensures, count_small c.args.old c.args.due, c.edges_number.ensures.few)

pub returns : goal.returns
returns c = both_told c.count_number.ensures c.edges_number.ensures
