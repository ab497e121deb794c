-- A refusal as a part: its number is told, and nothing beside it. Assumes nothing.
use mathlib.Core.Path.{refl}
use Rattle.sehmelir.proofs.ChunkTold.{part_code}
use Rattle.sehmelir.proofs.chunk_calls.PartFromRefusal.from.Goals as goal

pub returns : goal.returns
returns c = part_code c.args.refusal c.from-code.ensures (refl, refl, refl, refl, refl)
