-- `folds::unfolding::bow` meets its contract: whoever writes the points that are left from here has written all, and edge by edge those are the
-- same numbers. Assumes nothing.
use native.Mathlib.Omega.{arith}
use Rattle.runs.proofs.Written.{written-length}
use Rattle.turning.proofs.Stored.{point_past}
use Rattle.folds.proofs.FoldByFold.{bowing_start, bowing_room, bowing_near, bowing_step, bowing_done}
use Rattle.folds.proofs.unfolding.bow.Goals as goal

pub loop-init : goal.loop-init
loop-init c = bowing_start c.requires.0 c.requires.1 c.swung-s.ensures

pub place_point-n-requires-in-loop : goal.place_point-n-requires-in-loop
place_point-n-requires-in-loop c =
    let w = c.loop.invariant in
    let room = bowing_room w c.place_point-n.ensures c.requires.2 in
    (bowing_near w c.requires.1 c.heading-d.ensures c.point_of-q.ensures, omega (arith, room, c.loop-test.true))

pub place_point-n-requires-in-loop-2 : goal.place_point-n-requires-in-loop-2
place_point-n-requires-in-loop-2 c =
    let w = c.loop.invariant in
    let room = bowing_room w c.place_point-n.ensures c.requires.2 in
    let r = c.place_point-n-in-loop.ensures in
    (bowing_near w c.requires.1 c.heading-d.ensures c.point_of-q.ensures, omega (arith, room, point_past r, written-length r, c.loop-test.true))

pub loop-preserved : goal.loop-preserved
loop-preserved c = bowing_step c.loop.invariant c.requires.0 c.requires.1 (omega (arith, c.loop-test.true)) c.heading-d.ensures c.point_of-q.ensures c.swung-s-in-loop.ensures c.place_point-n-in-loop.ensures c.place_point-n-in-loop-2.ensures

pub place_point-requires : goal.place_point-requires
place_point-requires c =
    let room = bowing_room c.loop.invariant c.place_point-n.ensures c.requires.2 in
    (c.requires.1.to, omega (arith, room))

pub returns : goal.returns
returns c = bowing_done c.loop.invariant (omega (arith, c.loop-test.false)) c.swung-s.ensures c.place_point-n.ensures c.place_point.ensures
