-- `record_keeping::keep_gathered` meets its contract: the posts follow the path, and the own numbers are as many as the grade asks for. Assumes nothing.
use borrow.Author.Rules.{rules}
use native.Mathlib.Omega.{arith}
use lib.IntN.{ℤ}
use Rattle.std.proofs.lemmas.List.{length-take}
use Rattle.own_room.proofs.StepRooms.{numbers_few, numbers_any}
use Rattle.record_keeping.proofs.keep_gathered.Goals as goal

pub keep_with-requires : goal.keep_with-requires
keep_with-requires c = (omega (arith, length-take {A = ℤ}), numbers_few {g = c.args.grade} (omega (arith, c.if-grade-le4.true)) (search rules))

pub keep_with-requires-2 : goal.keep_with-requires-2
keep_with-requires-2 c = (omega (arith, length-take {A = ℤ}), numbers_any c.args.grade (search rules))
