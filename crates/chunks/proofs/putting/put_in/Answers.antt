-- `chunks::putting::put_in` meets its contract: in the gap that was found, or behind all once they are compacted. Assumes nothing.
use mathlib.Core.Path.{◌∙◌}
use native.Mathlib.Omega.{arith}
use Rattle.chunk_table.proofs.SoundTables.{sound_table}
use Rattle.chunks.proofs.Packed.{sorted_entries, gap_found, found_room}
use Rattle.chunks.proofs.Placed.{added_at, added_none}
use Rattle.chunks.proofs.putting.put_in.Goals as goal

pub lowest_gap-requires-clause-entries : goal.lowest_gap-requires-clause-entries
lowest_gap-requires-clause-entries c = sorted_entries c.requires.sorted (rw c.of.ensures at c.of.result.counted)

pub put_at-requires : goal.put_at-requires
put_at-requires c =
    let s = sound_table _ c.requires.sorted.sound in
    (omega (arith, s.table), found_room c.requires.sorted _ (gap_found c.requires.sorted _ (rw c.of.ensures at c.in-Some.ensures)), s.small)

pub returns-in-Some : goal.returns-in-Some
returns-in-Some c = c.put_at.ensures ∙ added_at _ _ _ (gap_found c.requires.sorted _ (rw c.of.ensures at c.in-Some.ensures)) c.requires.empty.0

pub returns-in-None : goal.returns-in-None
returns-in-None c = c.put_at-in-None.ensures ∙ added_none _ _ _ (gap_found c.requires.sorted _ (rw c.of.ensures at c.in-None.ensures)) c.requires.empty.0 c.squeeze-end.ensures.0 c.squeeze-end.ensures.1
