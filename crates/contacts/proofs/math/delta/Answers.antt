-- `contacts::math::delta` meets its contract: two radii differ by no more than a radius. Assumes nothing.
use Rattle.contacts.proofs.Steps.{delta_back}
use Rattle.contacts.proofs.math.delta.Goals as goal

pub returns : goal.returns
returns c = delta_back c.requires.0 c.requires.1
