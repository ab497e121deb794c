-- Two outcomes that the promise allows coincide. Assumes nothing.
use mathlib.Core.Path.{sym, ◌∙◌}
use Rattle.replies.proofs.OneOutcome.{one_answer}
use Rattle.converting.specs.Converting.{OneConverting}

pub one_converting : OneConverting
one_converting s g r q o p h k = (one_answer r q (h.reply ∙ sym k.reply), h.store ∙ sym k.store)
