-- `words::numbers::put_numbers` meets its contract: all at once, or as far as the room goes. Assumes nothing.
use native.Mathlib.Omega.{arith}
use lib.ListN.{take}
use lib.Seq.{length-take-le}
use Rattle.words.proofs.NumberRuns.{words_room}
use Rattle.words.proofs.numbers.put_numbers.Goals as goal

pub overflow_add-end : goal.overflow_add-end
overflow_add-end c = omega (arith, words_room (take c.args.n c.args.from.now) c.requires.room, length-take-le c.args.n c.args.from.now c.requires.n_in_bounds)
