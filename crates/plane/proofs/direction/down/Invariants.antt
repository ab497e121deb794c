-- `plane::direction::down` meets its contract. Assumes nothing.
use Prim.Native.Nat.{◌^◌, ◌≤◌}
use Rattle.plane.proofs.direction.down.Given as goal

abbrev pub invariant-loop-n : goal.invariant-loop-n
invariant-loop-n l = l.n ≤ 2 ^ 30

abbrev pub decreases-loop-n : goal.decreases-loop-n
decreases-loop-n l = l.n
