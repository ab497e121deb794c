-- What a `?` hands on: a refusal is the answer. Assumes nothing.
use Rattle.std.specs.Prelude.{Result, Err}
use Rattle.std.specs.Result.{IsErrAnd}
use Rattle.std.proofs.lemmas.Result.{err_from_is_err_and}
use mathlib.Core.Path.{◌≡◌}
use Rattle.replies.specs.declared.Refusal.{Refusal}

pub handed : {T : Type 0} (P : Result T Refusal → Type 0) {r : Result T Refusal} {e : Refusal} → IsErrAnd r (λ x. x ≡ e) → P (Err e) → P r
handed P {r} h p = let q = err_from_is_err_and r h in rw (q.1, q.2) p

-- where the promise speaks of what was written too
pub handed_with : {T O : Type 0} (P : Result T Refusal → O → Type 0) {o : O} {r : Result T Refusal} {e : Refusal} → IsErrAnd r (λ x. x ≡ e) → P (Err e) o → P r o
handed_with P {o} h p = handed (λ x. P x o) h p
