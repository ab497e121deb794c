-- `words::numbers::same_each` meets its contract: whoever compares the rest from j on has compared them all. Assumes nothing.
use native.Mathlib.Omega.{arith}
use Rattle.std.proofs.Common.{rules}
use Rattle.runs.proofs.Laws.{runs_to}
use Rattle.words.proofs.OneWord.{word_room}
use Rattle.words.proofs.NumberRuns.{onward_number, onward_end}
use Rattle.words.proofs.numbers.same_each.Goals as goal

pub same_word-good-requires : goal.same_word-good-requires
same_word-good-requires c = word_room _ (omega arith)

pub loop-j-preserved : goal.loop-j-preserved
loop-j-preserved c = onward_number _ _ c.loop-j.invariant c.loop-j-test.true (record { sfits = search rules }) c.bits.ensures (runs_to (omega arith) c.same_word-good.ensures)

pub returns : goal.returns
returns c = runs_to (omega arith) (onward_end _ _ c.loop-j.invariant c.loop-j-test.false)
