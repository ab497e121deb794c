-- `leaps::landing::lowest` meets its contract: cut or not, no component is lower. Assumes nothing.
use native.Mathlib.Omega.{arith}
use Rattle.std.proofs.lemmas.Int.{ints, clamps}
use Rattle.leaps.proofs.landing.lowest.Goals as goal

pub returns : goal.returns
returns c = record { size = record { size = omega (arith, ints, clamps) }; below = λ z h k. omega (arith, ints, clamps) }
