-- `replay::replay` is safe and ends: what is kept fits the buffer, and a call leaves the lengths as they are. Assumes nothing.
use Rattle.std.proofs.Common.{◌≡◌, ◌≤◌, length}
use Rattle.replay.proofs.replay.Given as goal

abbrev pub invariant-loop : goal.invariant-loop
invariant-loop g l = (l.kept ≤ length l.buffer) × (length l.buffer ≡ length l.initial.buffer)
