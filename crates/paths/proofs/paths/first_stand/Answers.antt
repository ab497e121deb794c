-- `paths::paths::first_stand` meets its contract: a walk made at the first vertex. Assumes nothing.
use Rattle.paths.proofs.Stands.{first_is}
use Rattle.paths.proofs.paths.first_stand.Goals as goal

pub returns : goal.returns
returns c = first_is c.vertex.ensures c.new.ensures
