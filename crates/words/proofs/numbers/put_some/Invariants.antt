-- `words::numbers::put_some` meets its contract: whoever puts the rest from z on has put them all. Assumes nothing.
use lib.ListN.{drop}
use Rattle.runs.specs.Runs.{put}
use Rattle.runs.proofs.Onward.{Onward}
use Rattle.words.specs.Words.{words_of, four_bytes}
use Rattle.words.proofs.numbers.put_some.Given as goal

abbrev pub invariant-loop-z : goal.invariant-loop-z
invariant-loop-z l = Onward put four_bytes l.initial.s l.at (words_of l.from) l.s l.pos (words_of (drop l.z-index l.from))
