-- `words::put_each` meets its contract: the four bytes are put in their order. Assumes nothing.
use native.Mathlib.Omega.{arith}
use Rattle.words.proofs.OneWord.{room_word, bytes_run}
use Rattle.words.proofs.put_each.Goals as goal

pub overflow_add-at : goal.overflow_add-at
overflow_add-at c = omega (arith, room_word _ c.requires)

pub overflow_add-at-2 : goal.overflow_add-at-2
overflow_add-at-2 c = omega (arith, room_word _ c.requires)

pub overflow_add-at-3 : goal.overflow_add-at-3
overflow_add-at-3 c = omega (arith, room_word _ c.requires)

pub overflow_add-result : goal.overflow_add-result
overflow_add-result c = omega (arith, room_word _ c.requires)

pub returns : goal.returns
returns c = bytes_run c.args.w c.to_le_bytes.ensures c.put_byte.ensures c.put_byte-2.ensures c.put_byte-3.ensures c.put_byte-4.ensures
