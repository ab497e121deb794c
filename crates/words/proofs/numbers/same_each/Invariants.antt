-- `words::numbers::same_each` meets its contract: whoever compares the rest from j on has compared them all. Assumes nothing.
use Prim.Native.Nat.{◌+◌, ◌*◌}
use lib.ListN.{drop}
use Rattle.runs.specs.Runs.{agree}
use Rattle.runs.proofs.Onward.{Onward}
use Rattle.words.specs.Words.{words_of, four_bytes}
use Rattle.words.proofs.numbers.same_each.Given as goal

abbrev pub invariant-loop-j : goal.invariant-loop-j
invariant-loop-j l = Onward (agree l.s) four_bytes l.ok l.at (words_of l.from) l.good (l.at + 4 * l.j) (words_of (drop l.j l.from))
