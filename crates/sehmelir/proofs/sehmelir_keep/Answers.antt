-- `sehmelir::sehmelir_keep` meets its contract: the call's own promise, by its number. Assumes nothing.
use Rattle.sehmelir.proofs.Told.{told_as}
use Rattle.sehmelir.proofs.sehmelir_keep.Goals as goal

pub returns : goal.returns
returns c = record { replies = told_as c.keep.ensures.reply c.from.ensures; out = c.keep.ensures.out }
