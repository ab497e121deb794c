-- Two outcomes that the promise allows coincide. Assumes nothing.
use mathlib.Core.Path.{sym, ◌∙◌}
use Rattle.replies.proofs.OneOutcome.{one_answer}
use Rattle.drawing.specs.Drawing.{OneDrawing}

pub one_drawing : OneDrawing
one_drawing path g out r q o p h k = (one_answer r q (h.reply ∙ sym k.reply), h.out ∙ sym k.out)
