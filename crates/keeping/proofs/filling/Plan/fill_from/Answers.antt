-- `keeping::filling::Plan::fill_from` meets its contract: what is left of table and bodies is filled in, step by step, by a walk that stays within the limits. Assumes nothing.
use Prim.Native.Nat.{◌<◌}
use native.Mathlib.Omega.{arith}
use lib.ListN.{length}
use Rattle.paths.specs.Paths.{path_of}
use Rattle.keeping.proofs.FilledSteps.{step_apart, step_on, end_apart, end_on}
use Rattle.paths.proofs.PathWalk.{inside_at, around_next}
use Rattle.own_room.proofs.StepRooms.{room_more}
use Rattle.keeping.proofs.TwoRuns.{both_length}
use Rattle.keeping.proofs.filling.Plan.fill_from.Goals as goal

pub fill_step-f-requires : goal.fill_step-f-requires
fill_step-f-requires c =
    let p = path_of c.args.self.now.path.now in
    let i : c.loop-k.k < length p = omega (arith, c.args.self.now.counted) in
    record {
      sound = (c.requires.sound.0, c.loop-k.invariant.1, inside_at p c.loop-k.k c.args.self.now.within.inside i c.vertex-b.ensures, room_more c.requires.sound.2 (omega (arith, c.loop-k.invariant.0)));
      apart = step_apart c.args.self.now.edition c.args.t c.args.self.now.posts.now p c.loop-k.invariant.2 i c.vertex-b.ensures c.post.ensures;
    }

pub loop-k-preserved : goal.loop-k-preserved
loop-k-preserved c =
    let p = path_of c.args.self.now.path.now in
    let i : c.loop-k.k < length p = omega (arith, c.args.self.now.counted) in (
      omega (arith, c.loop-k.invariant.0),
      around_next p c.loop-k.k c.args.self.now.within.inside i c.vertex-b.ensures c.loop-k.invariant.1 c.fill_step-f.ensures.walk,
      step_on c.args.self.now.edition c.args.t c.args.self.now.posts.now p c.loop-k.invariant.2 i c.vertex-b.ensures c.post.ensures c.fill_step-f.ensures,
    )

pub fill_end-requires : goal.fill_end-requires
fill_end-requires c = record {
  sound = (c.requires.sound.0, c.loop-k.invariant.1, room_more c.requires.sound.2 (omega (arith, c.loop-k.invariant.0)));
  apart = end_apart c.args.self.now.edition c.args.t c.args.self.now.posts.now (path_of c.args.self.now.path.now) c.loop-k.invariant.2 (omega (arith, c.args.self.now.counted));
}

pub returns : goal.returns
returns c = end_on c.args.self.now.edition c.args.t c.args.self.now.posts.now (path_of c.args.self.now.path.now) c.loop-k.invariant.2 (omega (arith, c.args.self.now.counted)) c.fill_end.ensures

pub shape_of-s : goal.shape_of-s
shape_of-s c = both_length (returns c)
