-- `words::numbers::put_some` meets its contract: whoever puts the rest from z on has put them all. Assumes nothing.
use Rattle.std.proofs.Common.{rules}
use Rattle.words.proofs.NumberRuns.{onward_number, number_room, onward_end}
use Rattle.words.proofs.numbers.put_some.Goals as goal

pub put_word-pos-requires : goal.put_word-pos-requires
put_word-pos-requires c = number_room _ _ c.loop-z.invariant c.loop-z-test.true (record { sfits = search rules }) c.bits.ensures c.requires

pub loop-z-preserved : goal.loop-z-preserved
loop-z-preserved c = onward_number _ _ c.loop-z.invariant c.loop-z-test.true (record { sfits = search rules }) c.bits.ensures c.put_word-pos.ensures

pub returns : goal.returns
returns c = onward_end _ _ c.loop-z.invariant c.loop-z-test.false
