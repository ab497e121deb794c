-- `folds::unfolding::bow` meets its contract: whoever writes the points that are left from here has written all, and edge by edge those are the
-- same numbers. Assumes nothing.
use Prim.Native.Nat.{◌-◌}
use Rattle.folds.proofs.FoldByFold.{Bowing}
use Rattle.folds.proofs.unfolding.bow.Given as goal

abbrev pub invariant-loop : goal.invariant-loop
invariant-loop l = Bowing l.t l.b l.initial.out l.initial.n l.b.turns l.initial.s l.out l.n (l.b.turns - l.counter) l.s
