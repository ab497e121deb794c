-- `chunks::removing::wipe` meets its contract: the entry of a sound table lies inside the table, and its outline inside the chunk. Assumes nothing.
use native.Mathlib.Omega.{arith}
use Rattle.chunk_table.proofs.SoundTables.{sound_table}
use Rattle.chunks.proofs.Laid.{over_long}
use Rattle.chunks.proofs.Removed.{wiped}
use Rattle.chunks.proofs.removing.wipe.Goals as goal

pub word_of-offset-requires : goal.word_of-offset-requires
word_of-offset-requires c = omega (arith, (sound_table _ c.requires.sound).table)

pub word_of-size-requires : goal.word_of-size-requires
word_of-size-requires c = omega (arith, (sound_table _ c.requires.sound).table)

pub clear_bytes-requires : goal.clear_bytes-requires
clear_bytes-requires c = omega (arith, (sound_table _ c.requires.sound).high _ c.requires.used.0 c.requires.used.1, (rw c.place.ensures.0 at c.word_of-offset.ensures.0), (rw c.place-2.ensures.0 at c.word_of-size.ensures.0))

pub overflow_mul-i : goal.overflow_mul-i
overflow_mul-i c = omega (arith, (sound_table _ c.requires.sound).few)

pub overflow_add-i : goal.overflow_add-i
overflow_add-i c = omega (arith, (sound_table _ c.requires.sound).few)

pub clear_bytes-requires-2 : goal.clear_bytes-requires-2
clear_bytes-requires-2 c = omega (arith, over_long _ _ _ c.clear_bytes.ensures, (sound_table _ c.requires.sound).table)

pub returns : goal.returns
returns c = (rw c.place-2.ensures.0 at c.word_of-size.ensures.0, wiped _ _ (rw c.place.ensures.0 at c.word_of-offset.ensures.0) (rw c.place-2.ensures.0 at c.word_of-size.ensures.0) c.clear_bytes.ensures c.clear_bytes-2.ensures)
