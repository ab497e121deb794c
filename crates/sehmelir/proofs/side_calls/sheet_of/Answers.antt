-- `sehmelir::side_calls::sheet_of` meets its contract: by the choice. Assumes nothing.
use Rattle.sehmelir.proofs.SideTold.{sheet_later, sheet_earlier}
use Rattle.sehmelir.proofs.side_calls.sheet_of.Goals as goal

pub returns-then-later : goal.returns-then-later
returns-then-later c = sheet_later c.if-later.true

pub returns-else-later : goal.returns-else-later
returns-else-later c = sheet_earlier c.if-later.false
