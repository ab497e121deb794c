-- `turning::turn::written` meets its contract: whoever writes what is left from here has written all, and what is kept undivided comes to the next
-- direction. Assumes nothing.
use mathlib.Core.Path.{◌≡◌}
use mathlib.Core.List.{◌++◌}
use Prim.Native.Nat.{◌+◌, ◌-◌}
use Rattle.runs.specs.Runs.{put}
use Rattle.runs.proofs.Laws.{room_first}
use Rattle.runs.proofs.Onward.{Onward, onward_start, onward_step, onward_as, onward_done, onward_room}
use Rattle.runs.proofs.Written.{written-length}
use Rattle.plane.specs.Vectors.{Near}
use Rattle.plane.specs.Directions.{UnitLong, rotated_of}
use Rattle.plane.proofs.Directions.{unit_short}
use Rattle.turning.specs.Edges.{edge_numbers, edge_of}
use Rattle.turning.specs.Arcs.{turns_of}
use Rattle.turning.proofs.Limits.{told, radius_told_lem, point_is, point_reach, swing_told, swing_next, next_unit}
use Rattle.turning.proofs.Cases.{rotations_left, rotations_none, turns_end, turns_stop, turns_next}
use Rattle.turning.proofs.turn.written.Goals.{After-heading-next, After-point_at-q, Then-stops}
use Rattle.turning.proofs.turn.written.Goals as goal

turned : (c : After-heading-next) → c.heading-next.result ≡ rotated_of c.args.r.step c.loop.dir
turned c = swing_next _ _ c.loop.invariant.4 c.heading-next.ensures

next : (c : After-heading-next) → UnitLong c.heading-next.result
next c = next_unit c.requires.turns.step c.loop.invariant.1 (turned c)

-- what is left where the arc stops, and where it goes on
last : (c : Then-stops) →
    let b = c.before.before in
    let a = c.args in
    let l = c.loop in
    Onward put edge_numbers a.out.now a.at (turns_of 1536 a.r a.d a.p) l.out l.n (edge_of l.cur a.r.to)
last c =
    let b = c.before.before in
    onward_as (turns_stop _ _ _ _ (rotations_left c.loop-test.true) (turned c.before.before.before) c.stops.ensures c.if-stops.true) c.loop.invariant.0

on : (c : After-point_at-q) →
    let b = c.before.before.before.before in
    let a = c.args in
    let l = c.loop in
    let q = c.point_at-q.result in
    Onward put edge_numbers a.out.now a.at (turns_of 1536 a.r a.d a.p) l.out l.n (edge_of l.cur q ++ turns_of (1536 - (l.counter + 1)) a.r c.heading-next.result q)
on c =
    let e = c.before.before in
    let b = e.before.before in
    onward_as
    (turns_next c.loop.counter _ _ _ c.loop-test.true (turned c.before.before.before.before.before.before.before) c.stops.ensures c.if-stops.false (point_is _ _ c.requires.turns.radius c.point_at-q.ensures))
    c.loop.invariant.0

reached : (c : After-point_at-q) → Near c.point_at-q.result
reached c =
    let b = c.before.before.before.before in
    point_reach c.requires.turns.centre c.requires.turns.radius (next c.before.before.before.before.before.before.before) c.point_at-q.ensures

pub cross-z-requires : goal.cross-z-requires
cross-z-requires c = (unit_short c.requires.unit_long.0, unit_short c.requires.turns.toward)

pub swung-s-requires : goal.swung-s-requires
swung-s-requires c = (c.requires.turns.step, c.requires.unit_long.0)

pub loop-init : goal.loop-init
loop-init c = (onward_start, c.requires.unit_long.0, c.requires.unit_long.1, told c.cross-z.type_inv c.cross-z.ensures, c.swung-s.ensures)

pub heading-next-requires : goal.heading-next-requires
heading-next-requires c = swing_told c.requires.turns.step c.loop.invariant.1 c.loop.invariant.4

pub stops-requires : goal.stops-requires
stops-requires c = (c.loop.invariant.1, next (goal.at.stops-requires c).After-heading-next, c.requires.turns.toward, c.loop.invariant.3)

pub edge-requires : goal.edge-requires
edge-requires c = record { near = (c.loop.invariant.2, c.requires.turns.to); room = onward_room (last (goal.at.edge-requires c).Then-stops) c.requires.room }

pub returns-then-stops : goal.returns-then-stops
returns-then-stops c = onward_done (last (goal.at.returns-then-stops c).Then-stops) c.edge.ensures

pub shape_of-out-then-stops : goal.shape_of-out-then-stops
shape_of-out-then-stops c = written-length (returns-then-stops c)

pub point_at-q-requires : goal.point_at-q-requires
point_at-q-requires c = (c.requires.turns.centre, radius_told_lem c.requires.turns.radius, next (goal.at.point_at-q-requires c).After-heading-next)

pub edge-n-requires : goal.edge-n-requires
edge-n-requires c = record { near = (c.loop.invariant.2, reached (goal.at.edge-n-requires c).After-point_at-q); room = room_first _ _ (onward_room (on (goal.at.edge-n-requires c).After-point_at-q) c.requires.room) }

pub cross-z-requires-in-loop : goal.cross-z-requires-in-loop
cross-z-requires-in-loop c =
    let b = c.before.before.before.before.before.before.before in
    (unit_short (next (goal.at.cross-z-requires-in-loop c).After-heading-next), unit_short c.requires.turns.toward)

pub swung-s-requires-in-loop : goal.swung-s-requires-in-loop
swung-s-requires-in-loop c =
    let b = c.before.before.before.before.before.before.before.before in
    (c.requires.turns.step, next (goal.at.swung-s-requires-in-loop c).After-heading-next)

pub loop-preserved : goal.loop-preserved
loop-preserved c =
    let p = c.before.before.before.before.before in
    (onward_step (on (goal.at.loop-preserved c).After-point_at-q) c.edge-n.ensures, next (goal.at.loop-preserved c).After-heading-next, reached (goal.at.loop-preserved c).After-point_at-q, told c.cross-z-in-loop.type_inv c.cross-z-in-loop.ensures, c.swung-s-in-loop.ensures)

pub edge-requires-2 : goal.edge-requires-2
edge-requires-2 c = record { near = (c.loop.invariant.2, c.requires.turns.to); room = onward_room (onward_as (turns_end _ _ _ _ (rotations_none c.loop-test.false)) c.loop.invariant.0) c.requires.room }

pub returns : goal.returns
returns c = onward_done (onward_as (turns_end _ _ _ _ (rotations_none c.loop-test.false)) c.loop.invariant.0) c.edge-2.ensures

pub shape_of-out : goal.shape_of-out
shape_of-out c = written-length (returns c)
