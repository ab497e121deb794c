-- `plane::rotation::lowered` meets its contract: whole parts go past the shift. Assumes nothing.
use Rattle.plane.proofs.Swinging.{lowered_back}
use Rattle.plane.proofs.rotation.lowered.Goals as goal

pub returns : goal.returns
returns c = lowered_back _ _ _ c.requires.0 c.requires.1 c.requires.2
