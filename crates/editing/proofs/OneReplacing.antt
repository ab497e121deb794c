-- Two outcomes that the promise allows coincide. Assumes nothing.
use mathlib.Core.Path.{sym, ◌∙◌}
use Rattle.replies.proofs.OneOutcome.{one_answer}
use Rattle.editing.specs.Replacing.{OneReplacing}

pub one_replacing : OneReplacing
one_replacing s n v r q o p h k = (one_answer r q (h.reply ∙ sym k.reply), h.store ∙ sym k.store)
