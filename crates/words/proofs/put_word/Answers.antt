-- `words::put_word` meets its contract: the word is placed, or put byte by byte where the room may end within it. Assumes nothing.
use native.Mathlib.Omega.{arith}
use Rattle.words.proofs.OneWord.{room_word}
use Rattle.words.proofs.put_word.Goals as goal

pub overflow_add-end : goal.overflow_add-end
overflow_add-end c = omega (arith, room_word _ c.requires)
