-- `reasons::listing::go_whys` meets its contract: body after body by a walk that stays within the limits, then the closing body. Assumes nothing.
use native.Mathlib.Omega.{arith}
use Rattle.runs.proofs.Laws.{runs_as, room_first, room_as}
use Rattle.runs.proofs.Onward.{onward_start, onward_step, onward_as, onward_done, onward_room}
use Rattle.variable_stroke.proofs.ChainSteps.{start_around}
use Rattle.paths.specs.Paths.{path_of}
use Rattle.paths.proofs.PathWalk.{inside_at}
use Rattle.paths.proofs.Stands.{next_inside, next_walk}
use Rattle.reasons.proofs.Whys.{whys_start, whys_step, whys_end}
use Rattle.reasons.proofs.listing.go_whys.Goals as goal

pub loop-k-init : goal.loop-k-init
loop-k-init c = (rw c.new-w.ensures (start_around _ (inside_at (path_of c.args.path.now) 0 c.requires.within.1 (omega (arith, c.requires.within.0, c.requires.within.3)) c.vertex.ensures)), onward_start)

pub step-s-requires : goal.step-s-requires
step-s-requires c = (c.requires.within.2, c.loop-k.invariant.0, (next_inside (path_of c.args.path.now) c.loop-k.k c.requires.within.1 (omega (arith, c.requires.within.0, c.loop-k-test.true)) c.vertex-b.ensures))

pub step_whys-at-requires : goal.step_whys-at-requires
step_whys-at-requires c = record { unit_long = (c.requires.within.2, c.loop-k.invariant.0, (next_inside (path_of c.args.path.now) c.loop-k.k c.requires.within.1 (omega (arith, c.requires.within.0, c.loop-k-test.true)) c.vertex-b.ensures), c.step-s.ensures.count); room = room_first _ _ (room_as (whys_step c.args.t (path_of c.args.path.now) c.loop-k.k c.loop-k.w (omega (arith, c.requires.within.0, c.loop-k-test.true)) c.vertex-b.ensures c.step-s.ensures.walk) (onward_room c.loop-k.invariant.1 (room_as (whys_start c.args.t (path_of c.args.path.now) (omega (arith, c.requires.within.0, c.requires.within.3)) c.vertex.ensures c.new-w.ensures) c.requires.room))) }

pub loop-k-preserved : goal.loop-k-preserved
loop-k-preserved c = (next_walk (path_of c.args.path.now) c.loop-k.w c.loop-k.k (omega (arith, c.requires.within.0, c.loop-k-test.true)) c.vertex-b.ensures c.requires.within.1 c.step-s.ensures.walk c.loop-k.invariant.0, onward_step (onward_as (whys_step c.args.t (path_of c.args.path.now) c.loop-k.k c.loop-k.w (omega (arith, c.requires.within.0, c.loop-k-test.true)) c.vertex-b.ensures c.step-s.ensures.walk) c.loop-k.invariant.1) c.step_whys-at.ensures)

pub finish_whys-requires : goal.finish_whys-requires
finish_whys-requires c = record { unit_long = (c.requires.within.2, c.loop-k.invariant.0.chain); room = room_as (whys_end c.args.t (path_of c.args.path.now) c.loop-k.k c.loop-k.w (omega (arith, c.loop-k-test.false)) (omega (arith, c.requires.within.0, c.loop-k-test.false))) (onward_room c.loop-k.invariant.1 (room_as (whys_start c.args.t (path_of c.args.path.now) (omega (arith, c.requires.within.0, c.requires.within.3)) c.vertex.ensures c.new-w.ensures) c.requires.room)) }

pub returns : goal.returns
returns c = runs_as (whys_start c.args.t (path_of c.args.path.now) (omega (arith, c.requires.within.0, c.requires.within.3)) c.vertex.ensures c.new-w.ensures) (onward_done (onward_as (whys_end c.args.t (path_of c.args.path.now) c.loop-k.k c.loop-k.w (omega (arith, c.loop-k-test.false)) (omega (arith, c.requires.within.0, c.loop-k-test.false))) c.loop-k.invariant.1) c.finish_whys.ensures)
