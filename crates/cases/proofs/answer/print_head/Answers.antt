-- `cases::answer::print_head`: each step grows what the one before left. Assumes nothing.
use Rattle.lines.proofs.Growing.{grows_then}
use Rattle.cases.proofs.answer.print_head.Goals as goal

pub returns-in_err-unsigned : goal.returns-in_err-unsigned
returns-in_err-unsigned g c = grows_then c.loop-number.invariant c.unsigned.ensures.grows

pub returns-in_err-space : goal.returns-in_err-space
returns-in_err-space g c = grows_then (grows_then c.loop-number.invariant c.unsigned.ensures.grows) c.space.ensures.grows

pub loop-number-preserved : goal.loop-number-preserved
loop-number-preserved g c = grows_then (grows_then c.loop-number.invariant c.unsigned.ensures.grows) c.space.ensures.grows

pub returns : goal.returns
returns g c = grows_then c.loop-number.invariant c.unsigned-2.ensures.grows
