-- `number::root::down` meets its contract: it ends at 0 at the latest. Assumes nothing.
use Rattle.std.proofs.Common.{◌^◌, ◌<◌}
use Rattle.number.proofs.root.down.Given as goal

abbrev pub invariant-loop-r : goal.invariant-loop-r
invariant-loop-r l = l.r < 2 ^ 32

abbrev pub decreases-loop-r : goal.decreases-loop-r
decreases-loop-r l = l.r
