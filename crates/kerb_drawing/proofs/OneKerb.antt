-- Two outcomes that the promise allows coincide. Assumes nothing.
use mathlib.Core.Path.{sym, ◌∙◌}
use Rattle.replies.proofs.OneOutcome.{one_answer}
use Rattle.kerb_drawing.specs.KerbDrawing.{OneKerbDrawing}

pub one_kerb_drawing : OneKerbDrawing
one_kerb_drawing l g r j c out a b o p h k = (one_answer a b (h.reply ∙ sym k.reply), h.out ∙ sym k.out)
