-- `chunks::compacting::pack` meets its contract: the outlines before i are moved. Assumes nothing.
use native.Mathlib.Omega.{arith}
use Rattle.chunks.proofs.Packed.{packing_start, packing_entry, packing_below, packing_inside, packing_step, packing_done}
use Rattle.chunks.proofs.compacting.pack.Goals as goal

pub loop-i-init : goal.loop-i-init
loop-i-init c = packing_start _ c.requires.front

pub word_of-offset-requires : goal.word_of-offset-requires
word_of-offset-requires c = (packing_entry c.requires.sorted c.loop-i.invariant c.loop-i-test.true, c.place.ensures.1)

pub word_of-size-requires : goal.word_of-size-requires
word_of-size-requires c = (packing_entry c.requires.sorted c.loop-i.invariant c.loop-i-test.true, c.place-in-loop-i.ensures.1)

pub slide_bytes-requires : goal.slide_bytes-requires
slide_bytes-requires c = (omega (arith, packing_below c.requires.sorted c.loop-i.invariant c.loop-i-test.true, (rw c.place.ensures.0 at c.word_of-offset.ensures.0)), omega (arith, packing_inside c.requires.sorted c.loop-i.invariant c.loop-i-test.true, (rw c.place.ensures.0 at c.word_of-offset.ensures.0), (rw c.place-in-loop-i.ensures.0 at c.word_of-size.ensures.0)))

pub overflow_add-at : goal.overflow_add-at
overflow_add-at c = omega (arith, packing_below c.requires.sorted c.loop-i.invariant c.loop-i-test.true, (rw c.place.ensures.0 at c.word_of-offset.ensures.0), c.word_of-size.ensures.1)

pub loop-i-preserved : goal.loop-i-preserved
loop-i-preserved c = packing_step c.requires.sorted c.loop-i.invariant c.loop-i-test.true (rw c.place.ensures.0 at c.word_of-offset.ensures.0) (rw c.place-in-loop-i.ensures.0 at c.word_of-size.ensures.0) c.slide_bytes.ensures

pub returns : goal.returns
returns c = packing_done c.requires.sorted c.loop-i.invariant c.loop-i-test.false
