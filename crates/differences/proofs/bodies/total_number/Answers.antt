-- `differences::bodies::total_number` meets its contract: one test. Assumes nothing.
use Rattle.differences.proofs.EdgesCompared.{totals_same, totals_differ}
use Rattle.differences.proofs.bodies.total_number.Goals as goal

pub returns-then-old-due : goal.returns-then-old-due
returns-then-old-due c = totals_same c.if-old-due.true

pub returns-else-old-due : goal.returns-else-old-due
returns-else-old-due c = totals_differ c.if-old-due.false
