-- `paths::paths::go_on` meets its contract: what is left of the path is drawn on, step by step, by a walk that stays within the limits. Assumes nothing.
use Prim.Native.Nat.{◌<◌}
use native.Mathlib.Omega.{arith}
use lib.ListN.{length}
use Rattle.runs.proofs.Laws.{room_as}
use Rattle.runs.proofs.Onward.{onward_start, onward_step, onward_as, onward_done, onward_room}
use Rattle.paths.specs.Paths.{path_of}
use Rattle.paths.proofs.PathWalk.{edges_step, edges_end}
use Rattle.paths.proofs.Stands.{next_inside, next_room, next_walk}
use Rattle.paths.proofs.paths.go_on.Goals as goal

pub loop-k-init : goal.loop-k-init
loop-k-init c = (c.requires.n_value.3, onward_start)

pub step-s-requires : goal.step-s-requires
step-s-requires c =
    let p = path_of c.args.path.now in
    let h = c.loop-k.invariant in
    let l : c.loop-k.k < length p = omega (arith, c.requires.n_value.0, c.loop-k-test.true) in record { unit_long = (c.requires.n_value.2, h.0, next_inside p c.loop-k.k c.requires.n_value.1 l c.vertex.ensures); room = next_room p _ c.loop-k.k l c.vertex.ensures _ (onward_room h.1 c.requires.room) }

pub loop-k-preserved : goal.loop-k-preserved
loop-k-preserved c =
    let p = path_of c.args.path.now in
    let h = c.loop-k.invariant in
    let b = c.vertex.ensures in
    let s = c.step-s.ensures in
    let l : c.loop-k.k < length p = omega (arith, c.requires.n_value.0, c.loop-k-test.true) in
    (next_walk p _ c.loop-k.k l b c.requires.n_value.1 s.walk h.0, onward_step (onward_as (edges_step _ p c.loop-k.k _ l b s.walk) h.1) s.made)

pub close-requires : goal.close-requires
close-requires c =
    let p = path_of c.args.path.now in
    let h = c.loop-k.invariant in record { unit_long = (c.requires.n_value.2, h.0); room = room_as (edges_end _ p c.loop-k.k _ (omega (arith, c.requires.n_value.0, c.loop-k-test.false))) (onward_room h.1 c.requires.room) }

pub returns : goal.returns
returns c = onward_done (onward_as (edges_end _ (path_of c.args.path.now) c.loop-k.k _ (omega (arith, c.requires.n_value.0, c.loop-k-test.false))) c.loop-k.invariant.1) c.close.ensures
