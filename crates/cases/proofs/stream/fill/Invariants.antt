-- `cases::stream::fill` meets its contract: each turn fills at least one byte more of the buffer, with the next bytes of the input.
use Rattle.std.proofs.Common.{◌≡◌, length, take, drop, ◌-◌, ◌≤◌}
use Rattle.std.specs.Io.KnownBytes.{Consumes}
use Rattle.cases.proofs.stream.fill.Given as goal

abbrev pub invariant-loop-count : goal.invariant-loop-count
invariant-loop-count g l =
    (l.filled ≤ l.count) × (l.count ≤ length l.buffer) × (take l.filled l.buffer ≡ take l.filled l.initial.buffer) × Consumes (g.R.Read.remaining l.initial.input) (g.R.Read.remaining l.input) (drop l.filled (take l.count l.buffer))

abbrev pub decreases-loop-count : goal.decreases-loop-count
decreases-loop-count g l = length l.initial.buffer - l.count
