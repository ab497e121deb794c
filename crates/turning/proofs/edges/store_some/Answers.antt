-- `turning::edges::store_some` meets its contract: each number is stored as it is, in its place, or is past the room. Assumes nothing.
use native.Mathlib.Omega.{arith}
use Rattle.turning.proofs.Stored.{room_one, edge_stored}
use Rattle.turning.proofs.edges.store_some.Goals as goal

pub overflow_add-at : goal.overflow_add-at
overflow_add-at c = omega (arith, room_one _ c.requires.room)

pub overflow_add-at-2 : goal.overflow_add-at-2
overflow_add-at-2 c = omega (arith, room_one _ c.requires.room)

pub overflow_add-at-3 : goal.overflow_add-at-3
overflow_add-at-3 c = omega (arith, room_one _ c.requires.room)

pub overflow_add-result : goal.overflow_add-result
overflow_add-result c = omega (arith, room_one _ c.requires.room)

pub returns : goal.returns
returns c =
    let f = c.before in
    let e = f.before.before.before.before.before in
    let d = e.before.before.before.before.before in
    let b = d.before.before.before.before.before in
    edge_stored _ b.requires.reach b.narrow.ensures d.narrow-2.ensures e.narrow-3.ensures f.narrow-4.ensures
    b.put.ensures d.put-2.ensures e.put-3.ensures f.put-4.ensures
