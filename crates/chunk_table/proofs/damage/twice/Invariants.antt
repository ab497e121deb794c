-- `chunk_table::damage::twice` meets its contract: what is left has a key twice, behind the last one, exactly if all have. Assumes nothing.
use mathlib.Core.Path.{◌≡◌}
use Prim.Native.Nat.{◌<◌}
use lib.ListN.{drop}
use Rattle.chunk_table.specs.Orders.{twice_from, twice_in}
use Rattle.chunk_table.proofs.damage.twice.Given as goal

abbrev pub invariant-loop-i : goal.invariant-loop-i
invariant-loop-i l = record {
  entry : l.last < l.table.entries;
  left : twice_from l.table.bytes.now l.last (drop l.i-index l.rest) ≡ twice_in l.table.bytes.now l.order;
}
