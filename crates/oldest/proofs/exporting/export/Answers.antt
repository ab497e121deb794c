-- `oldest::exporting::export` meets its contract: it is a pass by its two rules. Assumes nothing.
use Rattle.std.proofs.Common.{refl}
use Rattle.oldest.proofs.Answered.{exports}
use Rattle.oldest.proofs.exporting.export.Goals as goal

pub returns : goal.returns
returns c = exports refl c.pass.ensures
