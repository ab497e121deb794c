-- `kerb_comparing::KerbComparing::same_count` meets its contract: a count is compared where it is due. Assumes nothing.
use native.Mathlib.Omega.{arith}
use Rattle.words.proofs.OneWord.{word_room}
use Rattle.kerb_comparing.proofs.KerbComparisons.{count_due_lem, count_on}
use Rattle.kerb_comparing.proofs.KerbComparing.same_count.Goals as goal

pub same_word-requires : goal.same_word-requires
same_word-requires c = word_room _ (omega (arith, c.requires.0))

pub returns-then-ends : goal.returns-then-ends
returns-then-ends c = count_due_lem _ c.if-ends.true c.same_word.ensures

pub returns-else-ends : goal.returns-else-ends
returns-else-ends c = count_on _ c.if-ends.false
