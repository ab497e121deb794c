-- `chunk_table::table::Table::key_entry` meets its contract: the first of them; where none was found, there is none. Assumes nothing.
use mathlib.Core.Path.{◌≡◌}
use mathlib.Core.Bool.{false}
use Prim.Native.Nat.{ℕ, ◌<◌}
use Rattle.chunk_table.specs.Tables.{holds_key}
use Rattle.chunk_table.proofs.table.Table.key_entry.Given as goal

abbrev pub invariant-loop-i : goal.invariant-loop-i
invariant-loop-i l = (k : ℕ) → k < l.i → holds_key l.self.bytes.now l.key k ≡ false
