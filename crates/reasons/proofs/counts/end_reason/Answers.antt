-- `reasons::counts::end_reason` meets its contract: each case is the definition's. Assumes nothing.
use mathlib.Core.Path.{sym, ap}
use Rattle.reasons.specs.Lists.{end_reason}
use Rattle.reasons.proofs.counts.end_reason.Goals as goal

pub returns-in-Some : goal.returns-in-Some
unfolding end_reason
returns-in-Some c = ap end_reason (sym c.in-Some.is)

pub returns-in-None : goal.returns-in-None
unfolding end_reason
returns-in-None c = ap end_reason (sym c.in-None.is)
