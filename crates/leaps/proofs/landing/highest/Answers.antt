-- `leaps::landing::highest` meets its contract: cut or not, no component is higher. Assumes nothing.
use native.Mathlib.Omega.{arith}
use Rattle.std.proofs.lemmas.Int.{ints, clamps}
use Rattle.leaps.proofs.landing.highest.Goals as goal

pub returns : goal.returns
returns c = record { size = record { size = omega (arith, ints, clamps) }; above = λ z h k. omega (arith, ints, clamps) }
