-- `sehmelir::convert_calls::sehmelir_convert` meets its contract: the call's own promise, by its number. Assumes nothing.
use Rattle.sehmelir.proofs.Told.{told_as}
use Rattle.sehmelir.proofs.convert_calls.sehmelir_convert.Goals as goal

pub returns : goal.returns
returns c = record { replies = told_as c.convert.ensures.reply c.from.ensures; store = c.convert.ensures.store }
