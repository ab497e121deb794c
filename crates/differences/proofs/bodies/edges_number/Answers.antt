-- `differences::bodies::edges_number` meets its contract: how far the numbers agree tells whether all do, whatever edges they are. Assumes nothing.
use Rattle.differences.proofs.EdgesCompared.{edges_differ_lem, edges_same}
use Rattle.differences.proofs.bodies.edges_number.Goals as goal

pub returns-then-good-end : goal.returns-then-good-end
returns-then-good-end c = edges_differ_lem c.args.old c.min-few.ensures _ c.args.at c.requires.0 c.same_numbers-good.ensures c.if-good-end.true

pub returns-else-good-end : goal.returns-else-good-end
returns-else-good-end c = edges_same c.args.old c.min-few.ensures _ c.args.at c.requires.0 c.same_numbers-good.ensures c.if-good-end.false
