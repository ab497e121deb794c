-- `comparing::difference::same_style` meets its contract: three words one after another. Assumes nothing.
use native.Mathlib.Omega.{arith}
use Rattle.words.proofs.OneWord.{word_room}
use Rattle.outline.proofs.Parts.{style_run}
use Rattle.comparing.proofs.difference.same_style.Goals as goal

pub same_word-a-requires : goal.same_word-a-requires
same_word-a-requires c = word_room _ (omega arith)

pub same_word-b-requires : goal.same_word-b-requires
same_word-b-requires c = word_room _ (omega arith)

pub same_word-requires : goal.same_word-requires
same_word-requires c = word_room _ (omega arith)

pub returns : goal.returns
returns c = style_run c.args.y c.requires c.wide_bits.ensures c.join_word.ensures c.closed_word.ensures c.same_word-a.ensures c.same_word-b.ensures c.same_word.ensures
