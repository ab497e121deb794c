-- `converting::convert_stroke` meets its contract: the store's own path and posts, drawn anew where the old outline ends. Assumes nothing.
use native.Mathlib.Nat.{sub-zero}
use native.Mathlib.Omega.{arith}
use Rattle.checking.proofs.KnownStore.{known, known_few}
use Rattle.editing.proofs.NewVertex.{known_posts, known_front}
use Rattle.converting.proofs.ConvertRows.{stroke_counted, stroke_within, stroke_converts}
use Rattle.converting.proofs.convert_stroke.Goals as goal

pub show_posts-requires : goal.show_posts-requires
show_posts-requires c = let k = known c.requires.passed.0 c.requires.passed.1 in (known_front k, omega (arith, known_few k, c.requires.room.0))

pub whole_length-old-requires : goal.whole_length-old-requires
whole_length-old-requires c = omega (arith, known_few (known c.requires.passed.0 c.requires.passed.1))

pub slice_bounds-plan-end : goal.slice_bounds-plan-end
slice_bounds-plan-end c = omega (arith, known_few (known c.requires.passed.0 c.requires.passed.1))

pub invariant_of-plan : goal.invariant_of-plan
invariant_of-plan c = record {
  counted = stroke_counted c.requires.passed.0 c.requires.passed.1 (sub-zero _);
  within = stroke_within c.requires.passed.0 c.requires.passed.1 (sub-zero _) c.requires.grade.0 c.requires.grade.1;
}

pub redraw_stroke-requires : goal.redraw_stroke-requires
redraw_stroke-requires c = (c.requires.room.1, omega (arith, c.whole_length-old.ensures, known_few (known c.requires.passed.0 c.requires.passed.1)))

pub returns : goal.returns
returns c =
    stroke_converts c.requires.passed.0 c.requires.passed.1 (sub-zero _) _ c.requires.grade.0 c.requires.grade.1
    (known_posts (known c.requires.passed.0 c.requires.passed.1) c.args.posts.now c.show_posts.ensures (sub-zero _))
    c.whole_length-old.ensures
    c.redraw_stroke.ensures
