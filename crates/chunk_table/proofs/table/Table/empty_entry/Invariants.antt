-- `chunk_table::table::Table::empty_entry` meets its contract: the first of them; where none was found, there is none. Assumes nothing.
use mathlib.Core.Path.{◌≡◌}
use mathlib.Core.Bool.{true}
use Prim.Native.Nat.{ℕ, ◌<◌}
use Rattle.chunk_table.specs.Tables.{used_at}
use Rattle.chunk_table.proofs.table.Table.empty_entry.Given as goal

abbrev pub invariant-loop-i : goal.invariant-loop-i
invariant-loop-i l = (k : ℕ) → k < l.i → used_at l.self.bytes.now k ≡ true
