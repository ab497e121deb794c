-- `sehmelir::salvage_calls::sehmelir_salvage` meets its contract: the call's own promise, by its number. Assumes nothing.
use Rattle.sehmelir.proofs.SalvageTold.{salvaged_as}
use Rattle.sehmelir.proofs.salvage_calls.sehmelir_salvage.Goals as goal

pub returns : goal.returns
returns c = record { replies = salvaged_as c.salvage.ensures.reply c.salvage.ensures.notes c.from.ensures; out = c.salvage.ensures.out; list = c.salvage.ensures.list }
