-- `words::numbers::place_numbers` meets its contract: whoever puts the rest from j on has put them all. Assumes nothing.
use native.Mathlib.Omega.{arith}
use Rattle.std.proofs.Common.{rules}
use Rattle.runs.proofs.Laws.{runs_to}
use Rattle.words.proofs.NumberRuns.{onward_number, onward_end}
use Rattle.words.proofs.numbers.place_numbers.Goals as goal

pub loop-j-preserved : goal.loop-j-preserved
loop-j-preserved c = onward_number _ _ c.loop-j.invariant c.loop-j-test.true (record { sfits = search rules }) c.bits.ensures (runs_to (omega arith) c.place_word.ensures)

pub returns : goal.returns
returns c = runs_to (omega arith) (onward_end _ _ c.loop-j.invariant c.loop-j-test.false)
