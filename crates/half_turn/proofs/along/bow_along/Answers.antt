-- `half_turn::along::bow_along` meets its contract: whoever writes what is left from here has written all.
-- Assumes nothing.
use native.Mathlib.Omega.{arith}
use Rattle.runs.proofs.Written.{written-length}
use Rattle.turning.proofs.Limits.{radius_told_lem, point_is, point_reach}
use Rattle.turning.proofs.Stored.{one_room}
use Rattle.half_turn.proofs.Halves.{half_way_step, half_way_room, half_way_bow, bow_on}
use Rattle.half_turn.proofs.Told.{pair_unit, pair_step}
use Rattle.half_turn.proofs.along.bow_along.Goals as goal

pub point_at-q-requires : goal.point_at-q-requires
point_at-q-requires c = (c.requires.turns.0.centre, radius_told_lem c.requires.turns.0.radius, pair_unit _ _ c.pair_at-d.ensures)

pub store-n-requires : goal.store-n-requires
store-n-requires c =
    let room = half_way_room c.args.r _ _ c.loop-i.invariant c.requires.turns.4 in record { reach = record { a = c.loop-i.invariant.near; b = point_reach c.requires.turns.0.centre c.requires.turns.0.radius (pair_unit _ _ c.pair_at-d.ensures) c.point_at-q.ensures }; room = one_room _ (omega (arith, room.0, room.1, c.loop-i-test.true, c.well_formed.0.0)); inside = omega (arith, room.0, c.loop-i-test.true) }

pub loop-i-preserved : goal.loop-i-preserved
loop-i-preserved c =
    let q = point_is _ _ c.requires.turns.0.radius c.point_at-q.ensures in
    half_way_step c.loop-i.invariant c.loop-i-test.true (point_reach c.requires.turns.0.centre c.requires.turns.0.radius (pair_unit _ _ c.pair_at-d.ensures) c.point_at-q.ensures)
    (bow_on _ _ c.args.r _ _ c.loop-i-test.true (pair_step _ _ c.requires.turns.2 c.pair_at-d.ensures) q)
    c.store-n.ensures

pub store-requires : goal.store-requires
store-requires c =
    let room = half_way_room c.args.r _ _ c.loop-i.invariant c.requires.turns.4 in record { reach = record { a = c.loop-i.invariant.near; b = c.requires.turns.0.to }; room = one_room _ (omega (arith, room.0, room.1, c.well_formed.0.0)); inside = omega (arith, room.0) }

pub returns : goal.returns
returns c = half_way_bow c.args.r _ _ c.loop-i.invariant c.loop-i-test.false c.store.ensures

pub shape_of-out : goal.shape_of-out
shape_of-out c = written-length (returns c)
