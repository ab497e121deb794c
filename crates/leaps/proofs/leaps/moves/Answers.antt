-- `leaps::leaps::moves` meets its contract: a step takes a long direction far enough. Assumes nothing.
use native.Mathlib.Omega.{arith}
use Rattle.leaps.proofs.LeapTests.{moves_told, step_most_lem, radius_most, product_most}
use Rattle.leaps.proofs.leaps.moves.Goals as goal

pub overflow_mul-least : goal.overflow_mul-least
overflow_mul-least c = omega (arith, step_most_lem c.requires.step c.unsigned_abs.ensures.value)

pub overflow_mul-result : goal.overflow_mul-result
overflow_mul-result c = omega (arith, product_most (radius_most c.requires.radius c.unsigned_abs-radius.ensures.value) (step_most_lem c.requires.step c.unsigned_abs.ensures.value))

pub returns-then-sway-le134217728 : goal.returns-then-sway-le134217728
returns-then-sway-le134217728 c = moves_told _ c.requires.radius c.requires.step (omega (arith, c.sway.ensures, c.if-sway-le134217728.true)) c.unsigned_abs-radius.ensures.value c.unsigned_abs.ensures.value
