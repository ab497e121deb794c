-- `reasons::labels::reason_number` meets its contract: each reason has its number. Assumes nothing.
use mathlib.Core.Path.{sym, ap}
use Rattle.reasons.specs.Reasons.{reason_number}
use Rattle.reasons.proofs.labels.reason_number.Goals as goal

pub returns-in-LeftSide : goal.returns-in-LeftSide
unfolding reason_number
returns-in-LeftSide c = ap reason_number (sym c.in-LeftSide.is)

pub returns-in-RightSide : goal.returns-in-RightSide
unfolding reason_number
returns-in-RightSide c = ap reason_number (sym c.in-RightSide.is)

pub returns-in-StartCap : goal.returns-in-StartCap
unfolding reason_number
returns-in-StartCap c = ap reason_number (sym c.in-StartCap.is)

pub returns-in-EndCap : goal.returns-in-EndCap
unfolding reason_number
returns-in-EndCap c = ap reason_number (sym c.in-EndCap.is)

pub returns-in-LeftJoin : goal.returns-in-LeftJoin
unfolding reason_number
returns-in-LeftJoin c = ap reason_number (sym c.in-LeftJoin.is)

pub returns-in-RightJoin : goal.returns-in-RightJoin
unfolding reason_number
returns-in-RightJoin c = ap reason_number (sym c.in-RightJoin.is)

pub returns-in-Gap : goal.returns-in-Gap
unfolding reason_number
returns-in-Gap c = ap reason_number (sym c.in-Gap.is)

pub returns-in-Circle : goal.returns-in-Circle
unfolding reason_number
returns-in-Circle c = ap reason_number (sym c.in-Circle.is)
