-- `folds::unfolding::unfold` meets its contract: whoever writes what is left to read has written all. The measure is the numbers left.
-- Assumes nothing.
use native.Mathlib.Omega.{arith}
use Rattle.folds.proofs.ReadBack.{width_some}
use Rattle.folds.proofs.FoldByFold.{unfolding_start, unfolding_most, unfolding_stands, unfolding_sound, unfolding_room, unfolding_step, unfolding_done}
use Rattle.folds.proofs.unfolding.unfold.Goals as goal

pub loop-j-init : goal.loop-j-init
loop-j-init c = unfolding_start c.requires.1 c.requires.2

pub fold_at-f-requires : goal.fold_at-f-requires
fold_at-f-requires c = unfolding_stands c.loop-j.invariant c.loop-j-test.true

pub unfold_one-n-requires : goal.unfold_one-n-requires
unfold_one-n-requires c = (c.requires.0, unfolding_sound c.loop-j.invariant c.loop-j-test.true c.fold_at-f.ensures, unfolding_room c.loop-j.invariant c.loop-j-test.true c.fold_at-f.ensures)

pub loop-j-preserved : goal.loop-j-preserved
loop-j-preserved c = unfolding_step c.loop-j.invariant c.loop-j-test.true c.fold_at-f.ensures c.unfold_one-n.ensures c.width-j.ensures

pub overflow_add-j : goal.overflow_add-j
overflow_add-j c = omega (arith, unfolding_most (loop-j-preserved c))

pub loop-j-smaller : goal.loop-j-smaller
loop-j-smaller c = omega (arith, c.loop-j-test.true, c.width-j.ensures, width_some c.fold_at-f.result)

pub returns : goal.returns
returns c = unfolding_done c.loop-j.invariant (omega (arith, c.loop-j-test.false))
