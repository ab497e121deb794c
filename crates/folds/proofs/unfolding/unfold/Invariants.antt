-- `folds::unfolding::unfold` meets its contract: whoever writes what is left to read has written all. The measure is the numbers left.
-- Assumes nothing.
use Prim.Native.Nat.{◌-◌}
use Rattle.folds.proofs.FoldByFold.{Unfolding}
use Rattle.folds.proofs.unfolding.unfold.Given as goal

abbrev pub invariant-loop-j : goal.invariant-loop-j
invariant-loop-j l = Unfolding l.t l.own l.m l.initial.out l.j l.out l.n

abbrev pub decreases-loop-j : goal.decreases-loop-j
decreases-loop-j l = l.m - l.j
