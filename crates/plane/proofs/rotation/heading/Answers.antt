-- `plane::rotation::heading` meets its contract: each part is divided. Assumes nothing.
use Rattle.plane.proofs.Swinging.{heading_back}
use Rattle.plane.proofs.rotation.heading.Goals as goal

pub returns : goal.returns
returns c = heading_back _ c.requires c.upper.ensures c.upper-2.ensures
