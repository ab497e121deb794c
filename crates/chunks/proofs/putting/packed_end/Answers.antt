-- `chunks::putting::packed_end` meets its contract: the rest ends, from where those before i end, where all end. Assumes nothing.
use native.Mathlib.Omega.{arith}
use lib.ListN.{drop}
use Rattle.chunk_table.proofs.Standing.{rest_next, rest_none}
use Rattle.chunks.proofs.Ends.{end_from_lem}
use Rattle.chunks.proofs.Packed.{end_next, end_last}
use Rattle.chunks.proofs.putting.packed_end.Goals as goal

pub overflow_add-end : goal.overflow_add-end
overflow_add-end c = omega (arith, end_from_lem c.args.table.now.bytes.now (drop c.loop-i.i-index c.args.order.now) c.loop-i.end, c.loop-i.invariant, c.requires.end, c.word-end.ensures.1)

pub loop-i-preserved : goal.loop-i-preserved
loop-i-preserved c = end_next _ _ c.loop-i.invariant (rest_next _ _ c.loop-i-test.true) c.word-end.ensures.0

pub returns : goal.returns
returns c = end_last _ c.loop-i.invariant (rest_none _ _ c.loop-i-test.false)
