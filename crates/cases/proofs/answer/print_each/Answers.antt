-- `cases::answer::print_each`: each step grows what the one before left. Assumes nothing.
use Rattle.lines.proofs.Growing.{grows_then}
use Rattle.cases.proofs.answer.print_each.Goals as goal

pub returns-in_err-space : goal.returns-in_err-space
returns-in_err-space g c = grows_then c.loop-entry.invariant c.space.ensures.grows

pub returns-in_err-signed : goal.returns-in_err-signed
returns-in_err-signed g c = grows_then (grows_then c.loop-entry.invariant c.space.ensures.grows) c.signed.ensures.grows

pub loop-entry-preserved : goal.loop-entry-preserved
loop-entry-preserved g c = grows_then (grows_then c.loop-entry.invariant c.space.ensures.grows) c.signed.ensures.grows
