-- `sehmelir::sehmelir_export` meets its contract: the call's own promise, by its number. Assumes nothing.
use Rattle.sehmelir.proofs.Told.{told_as}
use Rattle.sehmelir.proofs.sehmelir_export.Goals as goal

pub returns : goal.returns
returns c = record { replies = told_as c.export.ensures.reply c.from.ensures; out = c.export.ensures.out }
