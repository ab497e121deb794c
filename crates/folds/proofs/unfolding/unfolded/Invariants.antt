-- `folds::unfolding::unfolded` meets its contract: what is left to count is what is left to read. The measure is the numbers left.
-- Assumes nothing.
use Prim.Native.Nat.{◌-◌}
use Rattle.folds.proofs.FoldByFold.{Counting}
use Rattle.folds.proofs.unfolding.unfolded.Given as goal

abbrev pub invariant-loop-j : goal.invariant-loop-j
invariant-loop-j l = Counting l.own l.m l.j l.n

abbrev pub decreases-loop-j : goal.decreases-loop-j
decreases-loop-j l = l.m - l.j
