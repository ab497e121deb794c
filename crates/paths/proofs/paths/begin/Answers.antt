-- `paths::paths::begin` meets its contract: step by step the room holds every edge so far. Assumes nothing.
use Prim.Native.Nat.{◌<◌}
use native.Mathlib.Omega.{arith}
use lib.ListN.{length}
use Rattle.paths.specs.Paths.{path_of}
use Rattle.paths.proofs.Stands.{begun_room, next_inside, next_room, begun_first, begun_step, begun_stays}
use Rattle.paths.proofs.paths.begin.Goals as goal

pub loop-k-init : goal.loop-k-init
loop-k-init c = begun_first _ _ c.requires.n_value.1 (omega (arith, c.requires.n_value.0, c.requires.n_value.3)) c.first_stand-first.ensures

pub stride-s-requires : goal.stride-s-requires
stride-s-requires c =
    let p = path_of c.args.path.now in
    let h = c.loop-k.invariant in
    let l : c.loop-k.k < length p = omega (arith, c.requires.n_value.0, c.loop-k-test.true) in record { unit_long = (c.requires.n_value.2, h.around, next_inside p c.loop-k.k c.requires.n_value.1 l c.vertex.ensures); room = next_room p _ c.loop-k.k l c.vertex.ensures _ (begun_room h c.requires.room) }

pub returns-then-out-s : goal.returns-then-out-s
returns-then-out-s c =
    let p = path_of c.args.path.now in
    begun_stays _ p c.requires.n_value.1 _ c.loop-k.k (omega (arith, c.requires.n_value.0, c.loop-k-test.true)) c.vertex.ensures c.stride-s.ensures c.loop-k.invariant

pub loop-k-preserved : goal.loop-k-preserved
loop-k-preserved c =
    let p = path_of c.args.path.now in
    begun_step _ p c.requires.n_value.1 _ c.loop-k.k (omega (arith, c.requires.n_value.0, c.loop-k-test.true)) c.vertex.ensures c.stride-s.ensures c.loop-k.invariant c.if-out-s.false
