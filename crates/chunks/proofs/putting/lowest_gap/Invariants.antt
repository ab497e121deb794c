-- `chunks::putting::lowest_gap` meets its contract: the rest's lowest gap, from where the last one ends, is that of all. Assumes nothing.
use mathlib.Core.Path.{◌≡◌}
use Prim.Native.Nat.{◌≤◌}
use lib.ListN.{drop}
use Rattle.chunk_table.specs.Tables.{front_in}
use Rattle.chunks.specs.Chunks.{gap_from}
use Rattle.chunks.proofs.putting.lowest_gap.Given as goal

abbrev pub invariant-loop-i : goal.invariant-loop-i
invariant-loop-i l = record {
  few : l.at ≤ 8589934592;
  left : gap_from l.table.bytes.now l.bytes (drop l.i-index l.order) l.at ≡ gap_from l.table.bytes.now l.bytes l.order (front_in l.table.bytes.now);
}
