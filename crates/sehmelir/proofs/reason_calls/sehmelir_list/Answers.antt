-- `sehmelir::reason_calls::sehmelir_list` meets its contract: the call's own promise, by its number. Assumes nothing.
use Rattle.sehmelir.proofs.Told.{told_as}
use Rattle.sehmelir.proofs.reason_calls.sehmelir_list.Goals as goal

pub returns : goal.returns
returns c = record { replies = told_as c.list.ensures.reply c.from.ensures; out = c.list.ensures.out }
