-- `differences::bodies::count_number` meets its contract: one test. Assumes nothing.
use Rattle.differences.proofs.EdgesCompared.{counts_same, counts_differ}
use Rattle.differences.proofs.bodies.count_number.Goals as goal

pub returns-then-old-due : goal.returns-then-old-due
returns-then-old-due c = counts_same c.if-old-due.true

pub returns-else-old-due : goal.returns-else-old-due
returns-else-old-due c = counts_differ c.if-old-due.false
