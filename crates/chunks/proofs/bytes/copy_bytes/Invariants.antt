-- `chunks::bytes::copy_bytes` meets its contract: after j turns j bytes are laid. Assumes nothing.
use Rattle.chunks.proofs.Laid.{Laying}
use Rattle.chunks.proofs.bytes.copy_bytes.Given as goal

abbrev pub invariant-loop-j : goal.invariant-loop-j
invariant-loop-j l = Laying l.initial.s l.at l.made l.j l.s
