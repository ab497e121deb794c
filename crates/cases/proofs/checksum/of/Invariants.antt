-- `cases::checksum::of` is safe: each sum is a rest, and has 32 bits.
use Rattle.std.proofs.Common.{◌^◌, ◌<◌}
use Rattle.cases.proofs.checksum.of.Given as goal

abbrev pub invariant-loop-entry : goal.invariant-loop-entry
invariant-loop-entry g l = l.sum < 2 ^ 32
