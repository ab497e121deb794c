-- `words::numbers::alike` meets its contract: all before j agree, so whoever compares the rest has compared them all. Assumes nothing.
use Prim.Native.Nat.{◌+◌, ◌*◌}
use lib.ListN.{drop}
use Rattle.runs.specs.Runs.{agree}
use Rattle.runs.proofs.Onward.{Onward}
use Rattle.words.specs.Words.{words_of, four_bytes}
use Rattle.words.proofs.numbers.alike.Given as goal

abbrev pub invariant-loop-j : goal.invariant-loop-j
invariant-loop-j l = Onward (agree l.s) four_bytes l.at l.at (words_of l.from) (l.at + 4 * l.j) (l.at + 4 * l.j) (words_of (drop l.j l.from))
