-- `drawing::draw_path` meets its contract: no vertices have no edges. Assumes nothing.
use Rattle.drawing.proofs.DrawAnswers.{draws_none}
use Rattle.drawing.proofs.draw_path.Goals as goal

pub returns-then-n-eq0 : goal.returns-then-n-eq0
returns-then-n-eq0 c = draws_none _ _ c.requires c.if-n-eq0.true
