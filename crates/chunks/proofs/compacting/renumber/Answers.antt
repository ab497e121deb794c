-- `chunks::compacting::renumber` meets its contract: the offsets before i are written. Assumes nothing.
use native.Mathlib.Omega.{arith}
use Rattle.chunk_table.proofs.Standing.{rest_next, rest_none}
use Rattle.chunks.proofs.Laid.{word_put}
use Rattle.chunks.proofs.Packed.{renumbering_step, renumbering_at, renumbering_done}
use Rattle.chunks.proofs.compacting.renumber.Goals as goal

pub overflow_cast-at : goal.overflow_cast-at
overflow_cast-at c = omega (arith, renumbering_at c.loop-i.invariant c.requires.end)

pub overflow_add-at : goal.overflow_add-at
overflow_add-at c = omega (arith, renumbering_at c.loop-i.invariant c.requires.end, c.word_of-at.ensures.1)

pub loop-i-preserved : goal.loop-i-preserved
loop-i-preserved c = renumbering_step c.loop-i.invariant (rest_next _ _ c.loop-i-test.true) (rw c.place.ensures.0 at (word_put _ c.place_word.ensures)) (rw c.place-in-loop-i.ensures.0 at c.word_of-at.ensures.0)

pub returns : goal.returns
returns c = renumbering_done c.loop-i.invariant (rest_none _ _ c.loop-i-test.false)
