-- `kerb_drawing::draw_points` meets its contract: no points have no edges, and whatever own numbers are picked, the edges are the kerb's. Assumes nothing.
use Rattle.kerb_drawing.proofs.KerbAnswers.{kerb_none}
use Rattle.kerb_drawing.proofs.draw_points.Goals as goal

pub returns-then-n-eq0 : goal.returns-then-n-eq0
returns-then-n-eq0 c = kerb_none _ _ _ _ _ c.requires _ c.if-n-eq0.true
