-- `cases::answer::print_head`: the page has grown. Assumes nothing.
use Rattle.lines.specs.Pages.{Grows}
use Rattle.cases.proofs.answer.print_head.Given as goal

abbrev pub invariant-loop-number : goal.invariant-loop-number
invariant-loop-number g l = Grows (g.W.Write.contents l.fn.page) (g.W.Write.contents l.page)
