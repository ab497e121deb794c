-- Each case of the answer has a number of its own, so the promise allows one answer. Assumes nothing.
use mathlib.Core.Path.{sym, ◌∙◌}
use Rattle.replies.proofs.OneOutcome.{one_answer}
use Rattle.reaching.specs.Theorems.{OneReach}

pub one_reach : OneReach
one_reach s k r q h g = one_answer r q (h.reply ∙ sym g.reply)
