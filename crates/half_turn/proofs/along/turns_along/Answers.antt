-- `half_turn::along::turns_along` meets its contract: the arc goes on at each of the 402 rotations and stops before one more. Assumes nothing.
use Rattle.runs.proofs.Laws.{room_first}
use Rattle.runs.proofs.Onward.{onward_as, onward_done, onward_room}
use Rattle.runs.proofs.Written.{written-length}
use Rattle.turning.proofs.Limits.{radius_told_lem, point_is, point_reach}
use Rattle.half_turn.proofs.Halves.{half_way_step, half_way_left, half_way_all, half_go}
use Rattle.half_turn.proofs.Told.{pair_unit, pair_step}
use Rattle.half_turn.proofs.along.turns_along.Goals as goal

pub point_at-q-requires : goal.point_at-q-requires
point_at-q-requires c = (c.requires.turns.0.centre, radius_told_lem c.requires.turns.0.radius, pair_unit _ _ c.pair_at-d.ensures)

pub edge-n-requires : goal.edge-n-requires
edge-n-requires c =
    let h = c.requires.turns in
    let go = half_go c.args.r _ h.0 h.2 h.3 _ _ c.loop-i-test.true (pair_step _ _ h.2 c.pair_at-d.ensures) (point_is _ _ h.0.radius c.point_at-q.ensures) in record { near = (c.loop-i.invariant.near, point_reach h.0.centre h.0.radius (pair_unit _ _ c.pair_at-d.ensures) c.point_at-q.ensures); room = room_first _ _ (onward_room (onward_as go (half_way_all c.args.r _ c.loop-i.invariant)) c.requires.room) }

pub loop-i-preserved : goal.loop-i-preserved
loop-i-preserved c =
    let h = c.requires.turns in
    half_way_step c.loop-i.invariant c.loop-i-test.true (point_reach h.0.centre h.0.radius (pair_unit _ _ c.pair_at-d.ensures) c.point_at-q.ensures)
    (half_go c.args.r _ h.0 h.2 h.3 _ _ c.loop-i-test.true (pair_step _ _ h.2 c.pair_at-d.ensures) (point_is _ _ h.0.radius c.point_at-q.ensures))
    c.edge-n.ensures

pub edge-requires : goal.edge-requires
edge-requires c =
    let h = c.requires.turns in record { near = (c.loop-i.invariant.near, h.0.to); room = onward_room (half_way_left c.args.r _ h.0 h.2 h.3 c.loop-i.invariant c.loop-i-test.false) c.requires.room }

pub returns : goal.returns
returns c =
    let h = c.requires.turns in
    onward_done (half_way_left c.args.r _ h.0 h.2 h.3 c.loop-i.invariant c.loop-i-test.false) c.edge.ensures

pub shape_of-out : goal.shape_of-out
shape_of-out c = written-length (returns c)
