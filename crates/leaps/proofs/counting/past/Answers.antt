-- `leaps::counting::past` meets its contract: an edge is four numbers, or none. Assumes nothing.
use native.Mathlib.Omega.{arith}
use Rattle.leaps.proofs.Distinct.{size_none, size_some}
use Rattle.leaps.proofs.counting.past.Goals as goal

pub returns-then-one : goal.returns-then-one
returns-then-one c = omega (arith, size_none c.if-one.true)

pub overflow_add-result : goal.overflow_add-result
overflow_add-result c = omega (arith, size_some c.if-one.false, c.requires)

pub returns-else-one : goal.returns-else-one
returns-else-one c = omega (arith, size_some c.if-one.false)
