-- `leaps::counting::counted` meets its contract: leaps that tell everything count what the rotations would. Assumes nothing.
use native.Mathlib.Omega.{arith}
use Rattle.leaps.proofs.Bows.{bends_count}
use Rattle.leaps.proofs.counting.counted.Goals as goal

pub overflow_add-result : goal.overflow_add-result
overflow_add-result c = omega (arith, bends_count c.in-Some.ensures.1 c.in-Some.ensures.0, c.requires.room.fits)

pub returns-in-Some : goal.returns-in-Some
returns-in-Some c = omega (arith, bends_count c.in-Some.ensures.1 c.in-Some.ensures.0)
