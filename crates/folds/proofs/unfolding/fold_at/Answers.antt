-- `folds::unfolding::fold_at` meets its contract: the mark tells an arc from an edge. Assumes nothing.
use borrow.Author.Rules.{rules}
use native.Mathlib.Omega.{arith}
use lib.IntN.{pos}
use lib.ListN.{get_or}
use Rattle.folds.proofs.ReadBack.{mark_told, mark_not, stands_length, stands_bent, bent_reads, straight_reads}
use Rattle.folds.proofs.unfolding.fold_at.Goals as goal

pub offset_bounds-own-j : goal.offset_bounds-own-j
offset_bounds-own-j c = omega (arith, stands_length c.requires)

pub bounds-own-j : goal.bounds-own-j
bounds-own-j c = omega (arith, stands_length c.requires)

pub bow_in-requires : goal.bow_in-requires
bow_in-requires c = stands_bent c.requires (mark_told {z = get_or c.args.own.now c.args.j (pos 0)} (record { sfits = search rules }) c.if-own-j.true)

pub returns-then-own-j : goal.returns-then-own-j
returns-then-own-j c = bent_reads c.bow_in.ensures (mark_told {z = get_or c.args.own.now c.args.j (pos 0)} (record { sfits = search rules }) c.if-own-j.true)

pub point_in-requires : goal.point_in-requires
point_in-requires c = omega (arith, stands_length c.requires)

pub overflow_add-j : goal.overflow_add-j
overflow_add-j c = omega (arith, stands_length c.requires)

pub point_in-requires-else-own-j : goal.point_in-requires-else-own-j
point_in-requires-else-own-j c = omega (arith, stands_length c.requires)

pub returns-else-own-j : goal.returns-else-own-j
returns-else-own-j c = straight_reads _ _ (mark_not c.if-own-j.false) c.point_in.ensures c.point_in-else-own-j.ensures
