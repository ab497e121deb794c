-- `cases::answer::print_each`: the page has grown. Assumes nothing.
use Rattle.lines.specs.Pages.{Grows}
use Rattle.cases.proofs.answer.print_each.Given as goal

abbrev pub invariant-loop-entry : goal.invariant-loop-entry
invariant-loop-entry g l = Grows (g.W.Write.contents l.fn.page) (g.W.Write.contents l.page)
