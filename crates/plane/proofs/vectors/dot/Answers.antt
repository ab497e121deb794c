-- `plane::vectors::dot` meets its contract: the fields come back from their bits. Assumes nothing.
use Rattle.plane.proofs.Products.{dot_back}
use Rattle.plane.proofs.vectors.dot.Goals as goal

pub returns : goal.returns
returns c = dot_back _ _ _ c.requires.0 c.requires.1 c.sum.ensures
