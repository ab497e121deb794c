-- `kerb_drawing::put_edges` meets its contract: what is held is copied; else it is drawn. Assumes nothing.
use Rattle.kerb_drawing.proofs.KerbAnswers.{counted_put}
use Rattle.kerb_drawing.proofs.put_edges.Goals as goal

pub returns-then-m-own : goal.returns-then-m-own
returns-then-m-own c = counted_put c.requires.counted.0 c.if-m-own.true c.copy.ensures
