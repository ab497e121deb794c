-- `chunks::putting::lowest_gap` meets its contract: the rest's lowest gap, from where the last one ends, is that of all. Assumes nothing.
use native.Mathlib.Omega.{arith}
use Rattle.chunk_table.proofs.Standing.{rest_next, rest_none}
use Rattle.chunks.proofs.Packed.{gap_fitting, gap_past, gap_last, gap_none}
use Rattle.chunks.proofs.putting.lowest_gap.Goals as goal

pub returns-then-at-bytes : goal.returns-then-at-bytes
returns-then-at-bytes c = gap_fitting _ _ _ c.loop-i.invariant.left (rest_next _ _ c.loop-i-test.true) c.word-offset.ensures.0 (omega arith)

pub loop-i-preserved : goal.loop-i-preserved
loop-i-preserved c = record { few = omega (arith, c.word-offset.ensures.1, c.word.ensures.1); left = gap_past _ _ _ c.loop-i.invariant.left (rest_next _ _ c.loop-i-test.true) c.word-offset.ensures.0 c.word.ensures.0 (omega arith) }

pub returns-then-at-bytes-2 : goal.returns-then-at-bytes-2
returns-then-at-bytes-2 c = gap_last _ _ _ c.loop-i.invariant.left (rest_none _ _ c.loop-i-test.false) (omega arith)

pub returns-else-at-bytes-2 : goal.returns-else-at-bytes-2
returns-else-at-bytes-2 c = gap_none _ _ _ c.loop-i.invariant.left (rest_none _ _ c.loop-i-test.false) (omega arith)
