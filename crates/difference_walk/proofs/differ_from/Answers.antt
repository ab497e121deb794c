-- `difference_walk::differ_from` meets its contract: what is left of the bodies is compared on, vertex by vertex, and the closing body last. Assumes nothing.
use mathlib.Core.Path.{refl}
use native.Mathlib.Nat.{le_antisymm}
use native.Mathlib.Omega.{arith}
use Rattle.runs.proofs.Written.{written-length}
use Rattle.paths.specs.Paths.{path_of}
use Rattle.paths.proofs.PathWalk.{inside_at}
use Rattle.difference_walk.proofs.BodyByBody.{differed_start, differed_length, differed_room, differed_step, end_edges, end_found}
use Rattle.difference_walk.proofs.differ_from.Goals as goal

pub loop-k-init : goal.loop-k-init
loop-k-init c = (omega (arith, c.requires.vertices.1), refl, differed_start c.requires.around c.requires.first_body.0 c.requires.first_body.1 c.requires.first_body.2)

pub vertex-v-requires : goal.vertex-v-requires
vertex-v-requires c = omega (arith, c.requires.vertices.0, c.loop-k-test.true)

pub old_count-old-requires : goal.old_count-old-requires
old_count-old-requires c = omega (arith, c.loop-k-test.true)

pub told_step-d-requires : goal.told_step-d-requires
told_step-d-requires c = record { unit_long = c.requires.unit_long; around = (c.loop-k.invariant.2.around, inside_at (path_of c.args.path.now) c.loop-k.k c.requires.vertices.2 (omega (arith, c.requires.vertices.0, c.loop-k-test.true)) c.vertex-v.ensures); own_room = omega (arith, c.requires.own_room.0, c.loop-k.invariant.1); no_wrap = differed_room c.loop-k.invariant.2 (omega (arith, c.loop-k.invariant.0, c.args.front.now.few)) c.requires.few_edges }

pub offset_bounds-differing-k : goal.offset_bounds-differing-k
offset_bounds-differing-k c = omega (arith, c.loop-k-test.true, c.args.front.now.few)

pub bounds-differing-k : goal.bounds-differing-k
bounds-differing-k c = omega (arith, c.requires.own_room.1, c.loop-k-test.true, differed_length c.loop-k.invariant.2)

pub loop-k-preserved : goal.loop-k-preserved
loop-k-preserved c = (omega (arith, c.loop-k-test.true), omega (arith, c.loop-k.invariant.1), differed_step c.loop-k.invariant.2 c.requires.vertices.2 (omega (arith, c.requires.vertices.0, c.loop-k-test.true)) c.vertex-v.ensures c.old_count-old.ensures c.old_count-old.type_inv c.told_step-d.ensures)

pub old_count-last-requires : goal.old_count-last-requires
old_count-last-requires c = omega arith

pub told_end-end-requires : goal.told_end-end-requires
told_end-end-requires c = record { unit_long = c.requires.unit_long; around = c.loop-k.invariant.2.around; own_room = omega (arith, c.requires.own_room.0, c.loop-k.invariant.1); no_wrap = differed_room c.loop-k.invariant.2 (omega (arith, c.loop-k.invariant.0, c.args.front.now.few)) c.requires.few_edges }

pub offset_bounds-differing-front : goal.offset_bounds-differing-front
offset_bounds-differing-front c = omega (arith, c.args.front.now.few)

pub bounds-differing-front : goal.bounds-differing-front
bounds-differing-front c = omega (arith, c.requires.own_room.1, differed_length c.loop-k.invariant.2)

pub shape_of-own : goal.shape_of-own
shape_of-own c = omega (arith, c.loop-k.invariant.1)

pub shape_of-differing : goal.shape_of-differing
shape_of-differing c = omega (arith, written-length (end_found c.loop-k.invariant.2 (le_antisymm c.loop-k.invariant.0 c.loop-k-test.false) (omega (arith, c.requires.vertices.0, c.loop-k-test.false)) c.old_count-last.ensures c.told_end-end.ensures))

pub returns : goal.returns
returns c = record { due = end_edges c.loop-k.invariant.2 (le_antisymm c.loop-k.invariant.0 c.loop-k-test.false) (omega (arith, c.requires.vertices.0, c.loop-k-test.false)) c.old_count-last.ensures c.told_end-end.ensures; found = end_found c.loop-k.invariant.2 (le_antisymm c.loop-k.invariant.0 c.loop-k-test.false) (omega (arith, c.requires.vertices.0, c.loop-k-test.false)) c.old_count-last.ensures c.told_end-end.ensures }
