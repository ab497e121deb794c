-- `folds::unfolding::unfolded` meets its contract: what is left to count is what is left to read. The measure is the numbers left.
-- Assumes nothing.
use mathlib.Core.Path.{refl}
use native.Mathlib.Omega.{arith}
use Rattle.folds.proofs.ReadBack.{width_some}
use Rattle.folds.proofs.FoldByFold.{counting_start, counting_most, counting_stands, counting_sound, counting_step, counting_done}
use Rattle.folds.proofs.unfolding.unfolded.Goals as goal

pub loop-j-init : goal.loop-j-init
loop-j-init c = counting_start c.requires.0

pub fold_at-f-requires : goal.fold_at-f-requires
fold_at-f-requires c = counting_stands c.loop-j.invariant c.loop-j-test.true

pub size-n-requires : goal.size-n-requires
size-n-requires c = counting_sound c.loop-j.invariant c.loop-j-test.true c.fold_at-f.ensures

pub overflow_add-n : goal.overflow_add-n
overflow_add-n c = let r = counting_step c.loop-j.invariant c.loop-j-test.true c.fold_at-f.ensures c.size-n.ensures refl in omega (arith, (counting_most r).1, c.requires.1)

pub overflow_add-j : goal.overflow_add-j
overflow_add-j c = let r = counting_step c.loop-j.invariant c.loop-j-test.true c.fold_at-f.ensures c.size-n.ensures c.width-j.ensures in omega (arith, (counting_most r).0)

pub loop-j-smaller : goal.loop-j-smaller
loop-j-smaller c = omega (arith, c.loop-j-test.true, c.width-j.ensures, width_some c.fold_at-f.result)

pub loop-j-preserved : goal.loop-j-preserved
loop-j-preserved c = counting_step c.loop-j.invariant c.loop-j-test.true c.fold_at-f.ensures c.size-n.ensures c.width-j.ensures

pub returns : goal.returns
returns c = counting_done c.loop-j.invariant (omega (arith, c.loop-j-test.false))
