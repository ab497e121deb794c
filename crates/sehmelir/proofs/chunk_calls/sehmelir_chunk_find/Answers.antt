-- `sehmelir::chunk_calls::sehmelir_chunk_find` meets its contract: the call's own promise, by its number. Assumes nothing.
use Rattle.sehmelir.proofs.ChunkTold.{part_as}
use Rattle.sehmelir.proofs.chunk_calls.sehmelir_chunk_find.Goals as goal

pub returns : goal.returns
returns c = record { replies = part_as c.find.ensures.reply c.find.ensures.offset c.from.ensures }
