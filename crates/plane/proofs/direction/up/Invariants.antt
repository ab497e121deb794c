-- `plane::direction::up` meets its contract. Assumes nothing.
use Prim.Native.Nat.{◌-◌, ◌*◌, ◌^◌, ◌≤◌}
use Rattle.plane.proofs.direction.up.Given as goal

abbrev pub invariant-loop-n : goal.invariant-loop-n
invariant-loop-n l = (l.n ≤ 2 ^ 30) × (l.n * l.n * l.s ≤ l.c * l.c * 2 ^ 60)

abbrev pub decreases-loop-n : goal.decreases-loop-n
decreases-loop-n l = 2 ^ 30 - l.n
