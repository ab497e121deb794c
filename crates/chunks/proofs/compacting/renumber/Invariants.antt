-- `chunks::compacting::renumber` meets its contract: the offsets before i are written. Assumes nothing.
use Rattle.chunks.proofs.Packed.{Renumbering}
use Rattle.chunks.proofs.compacting.renumber.Given as goal

abbrev pub invariant-loop-i : goal.invariant-loop-i
invariant-loop-i l = Renumbering l.initial.c l.order l.front l.i-index l.c l.at
