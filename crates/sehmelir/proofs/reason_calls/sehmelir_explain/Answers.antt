-- `sehmelir::reason_calls::sehmelir_explain` meets its contract: the call's own promise, by its number. Assumes nothing.
use Rattle.sehmelir.proofs.ReasonTold.{reason_as}
use Rattle.sehmelir.proofs.reason_calls.sehmelir_explain.Goals as goal

pub returns : goal.returns
returns c = record { replies = reason_as c.explain.ensures.reply c.explain.ensures.why c.from.ensures }
