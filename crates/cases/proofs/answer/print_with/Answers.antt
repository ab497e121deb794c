-- `cases::answer::print_with`: each step grows what the one before left. Assumes nothing.
use Rattle.lines.proofs.Growing.{grows_then}
use Rattle.cases.proofs.answer.print_with.Goals as goal

pub returns-in_err-print_each : goal.returns-in_err-print_each
returns-in_err-print_each g c = grows_then c.print_head.ensures c.print_each.ensures

pub returns-in_ok-print_each : goal.returns-in_ok-print_each
returns-in_ok-print_each g c = grows_then c.print_head.ensures c.print_each.ensures
