-- `comparing::compare::compare` meets its contract: what is left of the path is compared on, vertex by vertex, by a walk that stays within the limits. Assumes nothing.
use mathlib.Core.Path.{refl, sym, ap, ◌∙◌}
use Rattle.outline.specs.Layout.{front_bytes}
use Rattle.outline.specs.Stores.{posts_of}
use Rattle.outline.specs.declared.Form.TheVariants.{Stroke}
use Rattle.outline.proofs.FormLengths.{entry_most, entries_first, front_small}
use Rattle.outline.proofs.ReadBack.{post_each}
use native.Mathlib.Omega.{arith}
use Rattle.paths.proofs.PathWalk.{some, inside_at}
use Rattle.paths.specs.Paths.{path_of}
use Rattle.own_room.proofs.StepRooms.{step_room}
use Rattle.comparing.proofs.Comparisons.{going_start, going_step, going_entry, going_at, going_end, meets_none}
use Rattle.words.proofs.OneWord.{word_room}
use Rattle.plane.proofs.Directions.{step_unit}
use Rattle.comparing.proofs.compare.compare.Goals as goal

pub front-base-requires : goal.front-base-requires
front-base-requires c = front_small (Stroke c.args.edition) c.args.n (omega (arith, c.requires.path_within.0, c.requires.path_within.1.count))

pub same_word-none-requires : goal.same_word-none-requires
same_word-none-requires c = word_room _ (omega arith)

pub returns-then-n-eq0 : goal.returns-then-n-eq0
returns-then-n-eq0 c = meets_none c.args.edition (posts_of (Stroke c.args.edition) c.args.n c.args.s.now) (path_of c.args.path.now) (omega (arith, c.requires.path_within.0, c.if-n-eq0.true)) (c.front-base.ensures ∙ ap (front_bytes (Stroke c.args.edition)) c.requires.path_within.0) c.same_word-none.ensures

pub step-t-requires : goal.step-t-requires
step-t-requires c = (c.requires.path_within.1.low, c.requires.path_within.1.high)

pub vertex-a-requires : goal.vertex-a-requires
vertex-a-requires c = omega (arith, c.requires.path_within.0, some _ c.if-n-eq0.false)

pub post_at-requires : goal.post_at-requires
post_at-requires c = omega (arith, c.requires.table_inside, entries_first c.args.edition 0 c.args.n (some _ c.if-n-eq0.false))

pub same_entry-first-requires : goal.same_entry-first-requires
same_entry-first-requires c = record { inside = inside_at (path_of c.args.path.now) 0 c.requires.path_within.1.inside (omega (arith, c.requires.path_within.0, some _ c.if-n-eq0.false)) c.vertex-a.ensures; edition_bound = omega (arith, (entry_most c.args.edition).1) }

pub overflow_add-second : goal.overflow_add-second
overflow_add-second c = omega (arith, c.entry_bytes-second.ensures, (entry_most c.args.edition).1)

pub new-requires : goal.new-requires
new-requires c = tt

pub loop-k-init : goal.loop-k-init
loop-k-init c = (omega (arith, some _ c.if-n-eq0.false), refl, going_start c.args.edition (posts_of (Stroke c.args.edition) c.args.n c.args.s.now) (path_of c.args.path.now) c.requires.path_within.1.inside (omega (arith, c.requires.path_within.0, some _ c.if-n-eq0.false)) c.vertex-a.ensures (c.post_at.ensures ∙ sym (post_each c.args.edition c.args.n c.args.s.now 0 (some _ c.if-n-eq0.false))) c.new.ensures c.entry_bytes-second.ensures c.same_entry-first.ensures)

pub vertex-v-requires : goal.vertex-v-requires
vertex-v-requires c = omega (arith, c.requires.path_within.0, c.loop-k-test.true)

pub post_at-p-requires : goal.post_at-p-requires
post_at-p-requires c = omega (arith, c.requires.table_inside, entries_first c.args.edition c.loop-k.k c.args.n c.loop-k-test.true)

pub step-c-requires : goal.step-c-requires
step-c-requires c = record { unit_long = step_unit _ c.step-t.ensures; around = (c.loop-k.invariant.2.around, inside_at (path_of c.args.path.now) c.loop-k.k c.requires.path_within.1.inside (omega (arith, c.requires.path_within.0, c.loop-k-test.true)) c.vertex-v.ensures); step_room = step_room c.step-t.ensures c.requires.path_within.1 (omega (arith, c.requires.path_within.2, c.loop-k.invariant.1)); no_wrap = (going_entry c.args.edition (posts_of (Stroke c.args.edition) c.args.n c.args.s.now) (path_of c.args.path.now) c.requires.path_within.1.count (c.front-base.ensures ∙ ap (front_bytes (Stroke c.args.edition)) c.requires.path_within.0) c.loop-k.invariant.2, going_at c.args.edition (posts_of (Stroke c.args.edition) c.args.n c.args.s.now) (path_of c.args.path.now) c.requires.path_within.1.count (c.front-base.ensures ∙ ap (front_bytes (Stroke c.args.edition)) c.requires.path_within.0) c.loop-k.invariant.2) }

pub loop-k-preserved : goal.loop-k-preserved
loop-k-preserved c = (omega (arith, c.loop-k-test.true), omega (arith, c.loop-k.invariant.1), going_step c.args.edition (posts_of (Stroke c.args.edition) c.args.n c.args.s.now) (path_of c.args.path.now) c.loop-k.k c.step-t.ensures c.requires.path_within.1.inside (omega (arith, c.requires.path_within.0, c.loop-k-test.true)) c.vertex-v.ensures (c.post_at-p.ensures ∙ sym (post_each c.args.edition c.args.n c.args.s.now c.loop-k.k c.loop-k-test.true)) c.loop-k.invariant.2 c.step-c.ensures)

pub end-requires : goal.end-requires
end-requires c = record { unit_long = step_unit _ c.step-t.ensures; around = c.loop-k.invariant.2.around; step_room = step_room c.step-t.ensures c.requires.path_within.1 (omega (arith, c.requires.path_within.2, c.loop-k.invariant.1)); no_wrap = (omega (arith, (entry_most c.args.edition).0, going_entry c.args.edition (posts_of (Stroke c.args.edition) c.args.n c.args.s.now) (path_of c.args.path.now) c.requires.path_within.1.count (c.front-base.ensures ∙ ap (front_bytes (Stroke c.args.edition)) c.requires.path_within.0) c.loop-k.invariant.2), going_at c.args.edition (posts_of (Stroke c.args.edition) c.args.n c.args.s.now) (path_of c.args.path.now) c.requires.path_within.1.count (c.front-base.ensures ∙ ap (front_bytes (Stroke c.args.edition)) c.requires.path_within.0) c.loop-k.invariant.2) }

pub shape_of-own : goal.shape_of-own
shape_of-own c = omega arith

pub returns : goal.returns
returns c = going_end c.args.edition (posts_of (Stroke c.args.edition) c.args.n c.args.s.now) (path_of c.args.path.now) c.loop-k.k c.step-t.ensures (omega (arith, c.requires.path_within.0, c.loop-k-test.false)) (c.front-base.ensures ∙ ap (front_bytes (Stroke c.args.edition)) c.requires.path_within.0) c.loop-k.invariant.2 c.end.ensures
