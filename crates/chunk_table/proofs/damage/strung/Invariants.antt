-- `chunk_table::damage::strung` meets its contract: what is left is strung from where the last one ends exactly if all are. Assumes nothing.
use mathlib.Core.Path.{◌≡◌}
use lib.ListN.{drop}
use Rattle.chunk_table.specs.Orders.{strung_in}
use Rattle.chunk_table.specs.Tables.{front_in}
use Rattle.chunk_table.proofs.damage.strung.Given as goal

abbrev pub invariant-loop-i : goal.invariant-loop-i
invariant-loop-i l = strung_in l.table.bytes.now (drop l.i-index l.order) l.at ≡ strung_in l.table.bytes.now l.order (front_in l.table.bytes.now)
