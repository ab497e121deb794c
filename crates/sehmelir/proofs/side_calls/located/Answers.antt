-- `sehmelir::side_calls::located` meets its contract: each answer has its number, and a part its place. Assumes nothing.
use mathlib.Core.Path.{refl}
use native.Mathlib.Omega.{arith}
use Rattle.sehmelir.proofs.SideTold.{body-bytes, place_body, place_refused}
use Rattle.sehmelir.proofs.side_calls.located.Goals as goal

pub overflow_mul-result : goal.overflow_mul-result
overflow_mul-result c = omega (arith, body-bytes c.in-Ok.is c.requires)

pub returns-in-Ok : goal.returns-in-Ok
returns-in-Ok c = place_body c.in-Ok.is refl (refl, refl, refl, refl, refl)

pub returns-in-Err : goal.returns-in-Err
returns-in-Err c = place_refused c.in-Err.is c.from.ensures
