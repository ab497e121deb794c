-- `turning::edges::emit` meets its contract: past the room an edge changes nothing. Assumes nothing.
use native.Mathlib.Omega.{arith}
use Rattle.turning.proofs.Stored.{room_one, edge_past}
use Rattle.turning.proofs.edges.emit.Goals as goal

pub overflow_add-at : goal.overflow_add-at
overflow_add-at c = omega (arith, room_one _ c.requires.room)

pub overflow_add-result : goal.overflow_add-result
overflow_add-result c = omega (arith, room_one _ c.requires.room)

pub returns-then-out-at : goal.returns-then-out-at
returns-then-out-at c = edge_past _ c.if-out-at.true
