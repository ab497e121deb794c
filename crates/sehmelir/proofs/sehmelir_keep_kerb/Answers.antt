-- `sehmelir::sehmelir_keep_kerb` meets its contract: the call's own promise, by its number. Assumes nothing.
use Rattle.sehmelir.proofs.Told.{told_as}
use Rattle.sehmelir.proofs.sehmelir_keep_kerb.Goals as goal

pub returns : goal.returns
returns c = record { replies = told_as c.keep_kerb.ensures.reply c.from.ensures; out = c.keep_kerb.ensures.out }
