-- `drawing::put_held` meets its contract: edge by edge they are copied. Assumes nothing.
use Rattle.folds.proofs.ReadBack.{edgewise_fits, edgewise_unfolds}
use Rattle.drawing.proofs.put_held.Goals as goal

pub copy-requires : goal.copy-requires
copy-requires c = (c.requires.1.whole, edgewise_fits c.requires.1 c.requires.2 c.if-pen.false c.requires.3)

pub returns : goal.returns
returns c = edgewise_unfolds c.requires.1 c.requires.2 c.if-pen.false c.copy.ensures
