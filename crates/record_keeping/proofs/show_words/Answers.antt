-- `record_keeping::show_words` meets its contract: one word more each turn. Assumes nothing.
use mathlib.Core.Path.{refl, ◌∙◌}
use borrow.Author.Rules.{rules}
use native.Mathlib.Omega.{arith}
use lib.ListN.{length-set}
use Rattle.words.specs.Words.{words_of}
use Rattle.record_keeping.proofs.ShownWords.{shown_more}
use Rattle.record_keeping.proofs.show_words.Goals as goal

pub loop-k-init : goal.loop-k-init
unfolding words_of
loop-k-init c = (refl, refl)

pub loop-k-preserved : goal.loop-k-preserved
loop-k-preserved c =
    (length-set c.loop-k.posts c.loop-k.k c.bits.result ∙ c.loop-k.invariant.0, shown_more c.args.numbers.now c.loop-k.posts (c.loop-k.invariant.0 ∙ c.requires) c.loop-k.invariant.1 (omega arith) (record { sfits = search rules }) c.bits.ensures)
