-- `editing::replacing::change` meets its contract: the rows of the new vertex, then its place among the numbers, and writing where the old outline ends. Assumes nothing.
use mathlib.Core.Path.{sym, ◌∙◌}
use native.Mathlib.Nat.{sub-zero}
use native.Mathlib.Omega.{arith}
use Rattle.paths.specs.Paths.{path_of}
use Rattle.contacts.proofs.Allowed.{inside_of_lem}
use Rattle.checking.proofs.KnownStore.{known_few}
use Rattle.editing.proofs.NewVertex.{known_posts, known_front, changed_path, changed_count, changed_within, change_none, change_outside, change_done}
use Rattle.editing.proofs.replacing.change.Goals as goal

pub returns-then-h-index : goal.returns-then-h-index
returns-then-h-index c = change_none c.requires.known c.requires.drawn c.args.index c.args.v c.if-h-index.true

pub returns-then-not-allowed : goal.returns-then-not-allowed
returns-then-not-allowed c = change_outside c.requires.known c.requires.drawn c.args.index c.args.v (omega (arith, c.if-h-index.false)) (sym c.allowed.ensures ∙ c.if-not-allowed.true)

pub put_vertex-requires : goal.put_vertex-requires
put_vertex-requires c = (inside_of_lem (sym c.allowed.ensures ∙ c.if-not-allowed.false), omega (arith, c.if-h-index.false, known_few c.requires.known))

pub show_posts-requires : goal.show_posts-requires
show_posts-requires c = (known_front c.requires.known, omega (arith, known_few c.requires.known, c.requires.room.0))

pub whole_length-old-requires : goal.whole_length-old-requires
whole_length-old-requires c = omega (arith, known_few c.requires.known)

pub slice_bounds-plan-end : goal.slice_bounds-plan-end
slice_bounds-plan-end c = omega (arith, known_few c.requires.known)

pub invariant_of-plan : goal.invariant_of-plan
invariant_of-plan c = record {
  counted = changed_count c.requires.known c.requires.drawn c.args.index c.args.v (omega (arith, c.if-h-index.false)) c.put_vertex.ensures (sub-zero _);
  within = changed_within c.requires.known c.requires.drawn c.args.index c.args.v (omega (arith, c.if-h-index.false)) c.put_vertex.ensures (sub-zero _) (sym c.allowed.ensures ∙ c.if-not-allowed.false);
}

pub rewrite-requires : goal.rewrite-requires
rewrite-requires c = (omega (arith, c.whole_length-old.ensures, known_few c.requires.known), c.requires.room.1)

pub returns : goal.returns
returns c = change_done c.requires.known c.requires.drawn c.args.index c.args.v (omega (arith, c.if-h-index.false)) _ (path_of _) (sym c.allowed.ensures ∙ c.if-not-allowed.false) (known_posts c.requires.known c.args.posts.now c.show_posts.ensures (sub-zero _)) (changed_path c.requires.known c.requires.drawn c.args.index c.args.v (omega (arith, c.if-h-index.false)) c.put_vertex.ensures (sub-zero _)) c.whole_length-old.ensures c.rewrite.ensures
