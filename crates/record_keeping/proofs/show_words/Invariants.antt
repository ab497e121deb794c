-- `record_keeping::show_words` meets its contract: one word more each turn. Assumes nothing.
use mathlib.Core.Path.{◌≡◌}
use lib.ListN.{length, take}
use Rattle.words.specs.Words.{words_of}
use Rattle.record_keeping.proofs.show_words.Given as goal

abbrev pub invariant-loop-k : goal.invariant-loop-k
invariant-loop-k l = (length l.posts ≡ length l.initial.posts) × (take l.k l.posts ≡ words_of (take l.k l.numbers))
