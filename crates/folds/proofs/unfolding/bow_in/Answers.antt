-- `folds::unfolding::bow_in` meets its contract: eleven numbers stand there, and each is read in its place. Assumes nothing.
use native.Mathlib.Omega.{arith}
use Rattle.turning.proofs.Limits.{told}
use Rattle.folds.proofs.ReadBack.{bent_length, turns_fit, turns_told, parts_read}
use Rattle.folds.proofs.unfolding.bow_in.Goals as goal

pub overflow_add-result : goal.overflow_add-result
overflow_add-result c = omega (arith, bent_length c.requires)

pub offset_bounds-own-j : goal.offset_bounds-own-j
offset_bounds-own-j c = omega (arith, bent_length c.requires)

pub bounds-own-j : goal.bounds-own-j
bounds-own-j c = omega (arith, bent_length c.requires)

pub overflow_cast-result : goal.overflow_cast-result
overflow_cast-result c = let t = turns_fit c.requires in (t.0, omega (arith, t.1))

pub overflow_add-j : goal.overflow_add-j
overflow_add-j c = omega (arith, bent_length c.requires)

pub direction_in-requires : goal.direction_in-requires
direction_in-requires c = omega (arith, bent_length c.requires)

pub overflow_add-j-2 : goal.overflow_add-j-2
overflow_add-j-2 c = omega (arith, bent_length c.requires)

pub point_in-requires : goal.point_in-requires
point_in-requires c = omega (arith, bent_length c.requires)

pub overflow_add-j-3 : goal.overflow_add-j-3
overflow_add-j-3 c = omega (arith, bent_length c.requires)

pub number_at-requires : goal.number_at-requires
number_at-requires c = omega (arith, bent_length c.requires)

pub overflow_add-j-4 : goal.overflow_add-j-4
overflow_add-j-4 c = omega (arith, bent_length c.requires)

pub point_in-requires-2 : goal.point_in-requires-2
point_in-requires-2 c = omega (arith, bent_length c.requires)

pub overflow_add-j-5 : goal.overflow_add-j-5
overflow_add-j-5 c = omega (arith, bent_length c.requires)

pub point_in-requires-3 : goal.point_in-requires-3
point_in-requires-3 c = omega (arith, bent_length c.requires)

pub returns : goal.returns
returns c = parts_read _ _ (turns_told c.requires) c.direction_in.ensures c.point_in.ensures (told c.number_at.type_inv c.number_at.ensures) c.point_in-2.ensures c.point_in-3.ensures
