-- Two outcomes that the promise allows coincide. Assumes nothing.
use mathlib.Core.Path.{sym, ◌∙◌}
use Rattle.replies.proofs.OneOutcome.{one_answer}
use Rattle.keeping.specs.Keeping.{OneKeeping}

pub one_keeping : OneKeeping
one_keeping path ps g out r q o p h k = (one_answer r q (h.reply ∙ sym k.reply), h.out ∙ sym k.out)
