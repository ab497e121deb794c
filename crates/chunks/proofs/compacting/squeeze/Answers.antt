-- `chunks::compacting::squeeze` meets its contract: packed, cleared, renumbered. Assumes nothing.
use native.Mathlib.Omega.{arith}
use Rattle.chunk_table.proofs.SoundTables.{sound_table}
use Rattle.chunks.proofs.Laid.{over_long}
use Rattle.chunks.proofs.Packed.{sorted_entry}
use Rattle.chunks.proofs.Placed.{end_inside, squeezed_end, squeezed}
use Rattle.chunks.proofs.compacting.squeeze.Goals as goal

pub overflow_sub-rest : goal.overflow_sub-rest
overflow_sub-rest c = omega (arith, c.pack-end.ensures.0, over_long _ _ _ c.pack-end.ensures.1, end_inside _ (sound_table _ c.requires.sound))

pub clear_bytes-requires : goal.clear_bytes-requires
clear_bytes-requires c = omega (arith, c.pack-end.ensures.0, over_long _ _ _ c.pack-end.ensures.1, end_inside _ (sound_table _ c.requires.sound))

pub renumber-requires-clause-inside : goal.renumber-requires-clause-inside
renumber-requires-clause-inside c = λ k d. omega (arith, over_long _ _ _ c.pack-end.ensures.1, over_long _ _ _ c.clear_bytes.ensures, (sound_table _ c.requires.sound).table, sorted_entry c.requires k d)

pub renumber-requires-clause-end : goal.renumber-requires-clause-end
renumber-requires-clause-end c = squeezed_end c.requires (rw c.of.ensures at c.front-front.ensures) c.pack-end.ensures.0 c.pack-end.ensures.1 c.clear_bytes.ensures

pub returns : goal.returns
returns c = (c.pack-end.ensures.0, squeezed c.requires (rw c.of.ensures at c.front-front.ensures) c.pack-end.ensures.0 c.pack-end.ensures.1 c.clear_bytes.ensures c.renumber.ensures)
