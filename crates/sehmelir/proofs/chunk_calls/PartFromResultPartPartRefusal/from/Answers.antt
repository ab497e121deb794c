-- What finding came to as a part: each answer has its number, and a part its place. Assumes nothing.
use mathlib.Core.Path.{refl}
use Rattle.sehmelir.proofs.ChunkTold.{part_found, part_refused}
use Rattle.sehmelir.proofs.chunk_calls.PartFromResultPartPartRefusal.from.Goals as goal

pub returns-in-Ok : goal.returns-in-Ok
returns-in-Ok c = part_found c.in-Ok.is (refl, refl, refl, refl, refl)

pub returns-in-Err : goal.returns-in-Err
returns-in-Err c = part_refused c.in-Err.is c.from.ensures
