-- What salvage came to as a reply: each answer has its number, and an outline its notes. Assumes nothing.
use mathlib.Core.Path.{refl}
use Rattle.sehmelir.proofs.SalvageTold.{salvaged_outline, salvaged_code, salvaged_refused}
use Rattle.sehmelir.proofs.salvage_calls.SalvageReplyFromResultSalvagedRefusal.from.Goals as goal

pub returns-in-Ok : goal.returns-in-Ok
returns-in-Ok c = salvaged_outline c.in-Ok.is (refl, refl, refl, refl)

pub returns-in-Err : goal.returns-in-Err
returns-in-Err c = salvaged_refused c.in-Err.is (salvaged_code c.in-Err.refusal c.from-code.ensures (refl, refl, refl, refl))
