-- `oldest::importing::import` meets its contract: it is a pass by its two rules. Assumes nothing.
use Rattle.std.proofs.Common.{refl}
use Rattle.oldest.proofs.Answered.{imports}
use Rattle.oldest.proofs.importing.import.Goals as goal

pub returns : goal.returns
returns c = imports refl c.pass.ensures
