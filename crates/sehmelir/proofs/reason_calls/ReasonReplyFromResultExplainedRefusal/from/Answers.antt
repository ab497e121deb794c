-- What explaining came to as a reply: each answer has its number, and an edge its reason. Assumes nothing.
use mathlib.Core.Path.{refl}
use native.Mathlib.Omega.{arith}
use Rattle.contacts.specs.declared.Exactness.{Exactness}
use Rattle.sehmelir.proofs.ReasonTold.{reason_few, exact_few, exact_told, reason_edge, reason_code, reason_refused}
use Rattle.sehmelir.proofs.reason_calls.ReasonReplyFromResultExplainedRefusal.from.Goals as goal

pub overflow_cast-result : goal.overflow_cast-result
overflow_cast-result c = omega (arith, reason_few _ c.reason_number.ensures)

pub overflow_cast-result-in-Ok : goal.overflow_cast-result-in-Ok
overflow_cast-result-in-Ok c = omega (arith, exact_few _ c.exact_number.ensures)

pub overflow_cast-result-in-Ok-2 : goal.overflow_cast-result-in-Ok-2
overflow_cast-result-in-Ok-2 c = omega (arith, exact_few _ c.exact_number-in-Ok.ensures)

pub returns-in-Ok : goal.returns-in-Ok
returns-in-Ok c = reason_edge c.in-Ok.is (record {
  reply = refl;
  reason = c.reason_number.ensures;
  number = refl;
  vertex = refl;
  place = refl;
  start = exact_told (λ (x : Exactness). x.a) c.exactness-exact.ensures c.exact_number.ensures;
  end = exact_told (λ (x : Exactness). x.b) c.exactness-exact.ensures c.exact_number-in-Ok.ensures;
})

pub returns-in-Err : goal.returns-in-Err
returns-in-Err c = reason_refused c.in-Err.is (reason_code c.in-Err.refusal c.from-code.ensures refl refl refl refl refl refl refl)
