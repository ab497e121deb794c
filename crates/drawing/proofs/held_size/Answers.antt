-- `drawing::held_size` meets its contract: edge by edge they come to as many numbers as stand there. Assumes nothing.
use Rattle.folds.proofs.ReadBack.{edgewise_sizes}
use Rattle.drawing.proofs.held_size.Goals as goal

pub returns-else-pen : goal.returns-else-pen
returns-else-pen c = edgewise_sizes c.requires.0 c.requires.1 c.if-pen.false
