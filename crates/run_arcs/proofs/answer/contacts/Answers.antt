-- `run_arcs::answer::contacts` is safe: a drawn or thin step is not broken. Assumes nothing.
use Rattle.std.proofs.Common.{sym, ◌∙◌}
use Rattle.contacts.proofs.Steps.{drawn_whole, thin_whole}
use Rattle.run_arcs.proofs.answer.contacts.Goals as goal

pub section-requires : goal.section-requires
section-requires c = (c.in_ok-a.ensures, c.in_ok-b.ensures, drawn_whole _ _ (sym c.kind.ensures ∙ c.in-Drawn.is))

pub section-requires-in-Thin : goal.section-requires-in-Thin
section-requires-in-Thin c = (c.in_ok-a.ensures, c.in_ok-b.ensures, thin_whole _ _ (sym c.kind.ensures ∙ c.in-Thin.is))
