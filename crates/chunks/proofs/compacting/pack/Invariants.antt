-- `chunks::compacting::pack` meets its contract: the outlines before i are moved. Assumes nothing.
use Rattle.chunks.proofs.Packed.{Packing}
use Rattle.chunks.proofs.compacting.pack.Given as goal

abbrev pub invariant-loop-i : goal.invariant-loop-i
invariant-loop-i l = Packing l.initial.c l.i-index l.c l.at
