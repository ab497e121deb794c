-- `words::same_word` meets its contract: four bytes that make up the word agree to it, and else each is compared. Assumes nothing.
use native.Mathlib.Omega.{arith}
use Rattle.words.proofs.OneWord.{room_word, word_same}
use Rattle.words.proofs.same_word.Goals as goal

pub overflow_add-end : goal.overflow_add-end
overflow_add-end c = omega (arith, room_word _ c.requires)

pub returns-then-word_from-w : goal.returns-then-word_from-w
returns-then-word_from-w c = word_same c.args.s.now (omega arith) (omega arith) c.type_inv.s (omega arith)
