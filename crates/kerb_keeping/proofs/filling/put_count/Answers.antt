-- `kerb_keeping::filling::put_count` meets its contract: a count is put where it is due. Assumes nothing.
use native.Mathlib.Omega.{arith}
use Rattle.words.proofs.OneWord.{word_room}
use Rattle.kerb_keeping.proofs.KerbFilled.{count_put, count_kept}
use Rattle.kerb_keeping.proofs.filling.put_count.Goals as goal

pub put_word-table-requires : goal.put_word-table-requires
put_word-table-requires c = word_room _ (omega (arith, c.requires.0))

pub returns-then-ends : goal.returns-then-ends
returns-then-ends c = count_put c.if-ends.true c.put_word-table.ensures

pub returns : goal.returns
returns c = count_kept c.if-ends.false
