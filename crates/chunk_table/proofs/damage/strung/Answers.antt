-- `chunk_table::damage::strung` meets its contract: what is left is strung from where the last one ends exactly if all are. Assumes nothing.
use Rattle.chunk_table.proofs.Checked.{strung_low, strung_next, strung_last}
use Rattle.chunk_table.proofs.Standing.{rest_next, rest_none}
use Rattle.chunk_table.proofs.damage.strung.Goals as goal

pub returns-then-offset-at : goal.returns-then-offset-at
returns-then-offset-at c = strung_low _ _ c.loop-i.invariant (rest_next _ _ c.loop-i-test.true) c.word-offset.ensures.0 c.if-offset-at.true

pub loop-i-preserved : goal.loop-i-preserved
loop-i-preserved c = strung_next _ _ c.loop-i.invariant (rest_next _ _ c.loop-i-test.true) c.word-offset.ensures.0 c.word.ensures.0 c.if-offset-at.false

pub returns : goal.returns
returns c = strung_last _ _ c.loop-i.invariant (rest_none _ _ c.loop-i-test.false)
