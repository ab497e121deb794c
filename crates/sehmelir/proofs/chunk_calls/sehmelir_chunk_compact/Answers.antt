-- `sehmelir::chunk_calls::sehmelir_chunk_compact` meets its contract: the call's own promise, by its number. Assumes nothing.
use Rattle.sehmelir.proofs.Told.{told_as}
use Rattle.sehmelir.proofs.chunk_calls.sehmelir_chunk_compact.Goals as goal

pub returns : goal.returns
returns c = record { replies = told_as c.compact.ensures.reply c.from.ensures; chunk = c.compact.ensures.chunk }
