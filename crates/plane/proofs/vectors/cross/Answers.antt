-- `plane::vectors::cross` meets its contract: the fields come back from their bits. Assumes nothing.
use Rattle.plane.proofs.Products.{cross_back}
use Rattle.plane.proofs.vectors.cross.Goals as goal

pub returns : goal.returns
returns c = cross_back _ _ _ c.requires.0 c.requires.1 c.difference.ensures
