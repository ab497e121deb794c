-- `sehmelir::sehmelir_take_width` meets its contract: what the float was taken for, by its numbers. Assumes nothing.
use Rattle.sehmelir.proofs.Told.{tells_as}
use Rattle.sehmelir.proofs.sehmelir_take_width.Goals as goal

pub returns : goal.returns
returns c = tells_as c.width.ensures c.from.ensures
