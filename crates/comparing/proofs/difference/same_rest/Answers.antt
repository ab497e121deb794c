-- `comparing::difference::same_rest` meets its contract: by the form. Assumes nothing.
use Rattle.comparing.proofs.FirstByte.{rest_stroke}
use Rattle.comparing.proofs.difference.same_rest.Goals as goal

pub returns-in-Stroke : goal.returns-in-Stroke
returns-in-Stroke c = rest_stroke _ c.in-Stroke.is
