-- `sehmelir::sehmelir_replace` meets its contract: the call's own promise, by its number. Assumes nothing.
use mir.Facts.{to_z-of_z}
use mir.Syntax.{w32}
use Rattle.sehmelir.proofs.Told.{replaced_told}
use Rattle.sehmelir.proofs.sehmelir_replace.Goals as goal

pub returns : goal.returns
returns c = replaced_told (to_z-of_z {w = w32} c.ranges.x) (to_z-of_z {w = w32} c.ranges.y) (to_z-of_z {w = w32} c.ranges.radius) c.replace.ensures c.from.ensures
