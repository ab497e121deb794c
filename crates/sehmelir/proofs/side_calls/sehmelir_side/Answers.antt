-- `sehmelir::side_calls::sehmelir_side` meets its contract: the call's own promise, by its number. Assumes nothing.
use Rattle.sehmelir.proofs.SideTold.{length_fits, side_told}
use Rattle.sehmelir.proofs.side_calls.sehmelir_side.Goals as goal

pub located-requires : goal.located-requires
located-requires c = length_fits c.locate.ensures c.well_formed.0.0 c.well_formed.1.0.0

pub returns : goal.returns
returns c = side_told c.sheet_of.ensures c.locate.ensures c.located.ensures
