-- `sehmelir::sehmelir_take_coordinate` meets its contract: what the float was taken for, by its numbers. Assumes nothing.
use Rattle.sehmelir.proofs.Told.{tells_as}
use Rattle.sehmelir.proofs.sehmelir_take_coordinate.Goals as goal

pub returns : goal.returns
returns c = tells_as c.coordinate.ensures c.from.ensures
