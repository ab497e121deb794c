-- `sehmelir::sehmelir_read` meets its contract: the call's own promise, by its number. Assumes nothing.
use Rattle.sehmelir.proofs.Told.{path_as}
use Rattle.sehmelir.proofs.sehmelir_read.Goals as goal

pub path_read-requires : goal.path_read-requires
path_read-requires c = c.read.ensures.within

pub returns : goal.returns
returns c = record { replies = path_as c.read.ensures.reply c.read.ensures.grade c.read.ensures.form c.path_read.ensures; out = c.read.ensures.out }
