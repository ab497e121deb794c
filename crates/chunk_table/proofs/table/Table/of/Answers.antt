-- `chunk_table::table::Table::of` meets its contract: a sound table lies inside its chunk. Assumes nothing.
use native.Mathlib.Omega.{arith}
use Rattle.chunk_table.proofs.SoundTables.{sound_table}
use Rattle.chunk_table.proofs.table.Table.of.Goals as goal

pub entry_count-requires : goal.entry_count-requires
entry_count-requires c = (sound_table _ c.requires).head

pub invariant_of-result : goal.invariant_of-result
invariant_of-result c = let s = sound_table _ c.requires in record { each = λ k. (c.type_inv.bytes k).fits; small = s.small; counted = c.entry_count.ensures; few = omega (arith, s.few, c.entry_count.ensures); inside = omega (arith, s.table, c.entry_count.ensures) }
