-- `chunks::putting::packed_end` meets its contract: the rest ends, from where those before i end, where all end. Assumes nothing.
use mathlib.Core.Path.{◌≡◌}
use lib.ListN.{drop}
use Rattle.chunk_table.specs.Tables.{front_in}
use Rattle.chunks.specs.Chunks.{end_from}
use Rattle.chunks.proofs.putting.packed_end.Given as goal

abbrev pub invariant-loop-i : goal.invariant-loop-i
invariant-loop-i l = end_from l.table.bytes.now (drop l.i-index l.order) l.end ≡ end_from l.table.bytes.now l.order (front_in l.table.bytes.now)
