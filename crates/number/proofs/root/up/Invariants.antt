-- `number::root::up` meets its contract: one more while its square is within, so the last is the root. Assumes nothing.
use Rattle.std.proofs.Common.{◌-◌, ◌*◌, ◌^◌, ◌<◌, ◌≤◌}
use Rattle.number.proofs.root.up.Given as goal

abbrev pub invariant-loop-r : goal.invariant-loop-r
invariant-loop-r l = (l.r * l.r ≤ l.n) × (l.r < 2 ^ 29)

abbrev pub decreases-loop-r : goal.decreases-loop-r
decreases-loop-r l = 2 ^ 29 - l.r
