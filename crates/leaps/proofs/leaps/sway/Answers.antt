-- `leaps::leaps::sway` meets its contract: a step's components are at most 2^30. Assumes nothing.
use mathlib.Core.Path.{refl}
use native.Mathlib.Omega.{arith}
use Rattle.plane.proofs.Products.{back, short_fits}
use Rattle.plane.proofs.Directions.{unit_short}
use Rattle.leaps.proofs.LeapTests.{lack_fits, sway_told, sway_most}
use Rattle.leaps.proofs.leaps.sway.Goals as goal

pub overflow_sub-t : goal.overflow_sub-t
overflow_sub-t c = let s = (unit_short c.requires).x in rw (back (short_fits s)) (lack_fits s)

pub overflow_add-result : goal.overflow_add-result
overflow_add-result c = omega (arith, sway_told _ c.requires refl c.unsigned_abs.ensures.value c.unsigned_abs-2.ensures.value, sway_most _ c.requires)

pub overflow_add-result-2 : goal.overflow_add-result-2
overflow_add-result-2 c = omega (arith, sway_told _ c.requires refl c.unsigned_abs.ensures.value c.unsigned_abs-2.ensures.value, sway_most _ c.requires)

pub returns : goal.returns
returns c = sway_told _ c.requires refl c.unsigned_abs.ensures.value c.unsigned_abs-2.ensures.value
