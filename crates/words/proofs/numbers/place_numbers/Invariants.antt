-- `words::numbers::place_numbers` meets its contract: whoever puts the rest from j on has put them all. Assumes nothing.
use Prim.Native.Nat.{◌+◌, ◌*◌}
use lib.ListN.{drop}
use Rattle.runs.specs.Runs.{put}
use Rattle.runs.proofs.Onward.{Onward}
use Rattle.words.specs.Words.{words_of, four_bytes}
use Rattle.words.proofs.numbers.place_numbers.Given as goal

abbrev pub invariant-loop-j : goal.invariant-loop-j
invariant-loop-j l = Onward put four_bytes l.initial.s l.at (words_of l.from) l.s (l.at + 4 * l.j) (words_of (drop l.j l.from))
