-- `folds::unfolding::size` meets its contract, case by case. Assumes nothing.
use native.Mathlib.Omega.{arith}
use Rattle.folds.proofs.ReadBack.{size_most}
use Rattle.folds.proofs.FoldByFold.{size_straight, size_bent}
use Rattle.folds.proofs.unfolding.size.Goals as goal

pub overflow_mul-result : goal.overflow_mul-result
overflow_mul-result c = omega (arith, size_bent c.in-Bent.is, size_most _ c.requires)

pub overflow_add-result : goal.overflow_add-result
overflow_add-result c = omega (arith, size_bent c.in-Bent.is, size_most _ c.requires)

pub returns-in-Straight : goal.returns-in-Straight
returns-in-Straight c = size_straight c.in-Straight.is

pub returns-in-Bent : goal.returns-in-Bent
returns-in-Bent c = size_bent c.in-Bent.is
