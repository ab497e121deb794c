-- `leaps::turns::turns` meets its contract: past the room the first edge is emitted, to the first inner point, and the others are counted.
-- Assumes nothing.
use mathlib.Core.Path.{ap}
use native.Mathlib.Omega.{arith}
use Rattle.runs.proofs.Laws.{runs_as, room_as, room_first, room_then}
use Rattle.plane.proofs.Directions.{unit_short}
use Rattle.turning.specs.Arcs.{turns_of}
use Rattle.turning.proofs.Limits.{told, radius_told_lem, point_is, point_reach, next_unit}
use Rattle.turning.proofs.Cases.{turns_stop, turns_go}
use Rattle.leaps.proofs.Distinct.{past_then, counted_at}
use Rattle.leaps.proofs.turns.turns.Goals as goal

pub cross-requires : goal.cross-requires
cross-requires c = (unit_short c.requires.unit_long.0, unit_short c.requires.turns.toward)

pub stops-requires : goal.stops-requires
stops-requires c =
    (c.requires.unit_long.0, next_unit c.requires.turns.step c.requires.unit_long.0 c.rotated-next.ensures, c.requires.turns.toward, told c.cross.type_inv c.cross.ensures)

pub edge-requires : goal.edge-requires
edge-requires c = record { near = (c.requires.unit_long.1, c.requires.turns.to); room = room_as (turns_stop _ _ _ _ (omega arith) c.rotated-next.ensures c.stops.ensures c.if-stops.true) c.requires.room }

pub returns-then-stops : goal.returns-then-stops
returns-then-stops c = runs_as (turns_stop _ _ _ _ (omega arith) c.rotated-next.ensures c.stops.ensures c.if-stops.true) c.edge.ensures

pub point_at-q-requires : goal.point_at-q-requires
point_at-q-requires c = (c.requires.turns.centre, radius_told_lem c.requires.turns.radius, next_unit c.requires.turns.step c.requires.unit_long.0 c.rotated-next.ensures)

pub edge-n-requires : goal.edge-n-requires
edge-n-requires c = record { near = (c.requires.unit_long.1, point_reach c.requires.turns.centre c.requires.turns.radius (next_unit c.requires.turns.step c.requires.unit_long.0 c.rotated-next.ensures) c.point_at-q.ensures); room = room_first _ _ (room_as (turns_go _ _ _ _ (omega arith) c.rotated-next.ensures c.stops.ensures c.if-stops.false (point_is _ _ c.requires.turns.radius c.point_at-q.ensures)) c.requires.room) }

pub counted-requires : goal.counted-requires
counted-requires c = record { turns = (c.requires.turns, next_unit c.requires.turns.step c.requires.unit_long.0 c.rotated-next.ensures); room = room_as (ap (turns_of 1535 c.args.r c.rotated-next.result) (point_is _ _ c.requires.turns.radius c.point_at-q.ensures)) (room_then _ c.edge-n.ensures (room_as (turns_go _ _ _ _ (omega arith) c.rotated-next.ensures c.stops.ensures c.if-stops.false (point_is _ _ c.requires.turns.radius c.point_at-q.ensures)) c.requires.room)) }

pub returns : goal.returns
returns c = runs_as (turns_go _ _ _ _ (omega arith) c.rotated-next.ensures c.stops.ensures c.if-stops.false (point_is _ _ c.requires.turns.radius c.point_at-q.ensures)) (past_then _ _ c.if-at-out.false c.edge-n.ensures (counted_at c.args.r c.rotated-next.result c.edge-n.result (point_is _ _ c.requires.turns.radius c.point_at-q.ensures) c.counted.ensures))
