-- Where a run has come to: the whole invariant of a loop that takes things one after another. Assumes nothing.
use mathlib.Core.Path.{◌≡◌}
use mathlib.Core.List.{List, ◌++◌}
use Prim.Native.Nat.{ℕ, ◌+◌}
use native.Mathlib.Omega.{arith}
use lib.ListN.{length}
use Rattle.runs.specs.Runs.{spread, Runs, Room}
use Rattle.runs.proofs.Laws.{runs_all, runs_then}

-- whoever takes the rest from here has taken all from the start
pub record Onward {S A B : Type 0} (f : S → ℕ → A → S) (g : B → List A) (s₀ : S) (a₀ : ℕ) (all : List B) (s : S) (a : ℕ) (rest : List B) : Type 0 where
  pub on : (s' : S) (a' : ℕ) → Runs f g s a rest s' a' → Runs f g s₀ a₀ all s' a'

module _ {S A B : Type 0} {f : S → ℕ → A → S} {g : B → List A} where
  pub onward_start : {s : S} {a : ℕ} {es : List B} → Onward f g s a es s a es
  onward_start = record { on = λ s' a' p. p }

  pub onward_step : {s₀ s s' : S} {a₀ a a' : ℕ} {all es rest : List B} → Onward f g s₀ a₀ all s a (es ++ rest) → Runs f g s a es s' a' → Onward f g s₀ a₀ all s' a' rest
  onward_step h p = record { on = λ m b q. h.on m b (runs_then p q) }

  pub onward_as : {s₀ s : S} {a₀ a : ℕ} {all rest more : List B} → rest ≡ more → Onward f g s₀ a₀ all s a rest → Onward f g s₀ a₀ all s a more
  onward_as e h = rw e at h

  pub onward_done : {s₀ s s' : S} {a₀ a a' : ℕ} {all rest : List B} → Onward f g s₀ a₀ all s a rest → Runs f g s a rest s' a' → Runs f g s₀ a₀ all s' a'
  onward_done {s' = s'} {a' = a'} h p = h.on s' a' p

  pub onward_pos : {s₀ s : S} {a₀ a : ℕ} {all rest : List B} → Onward f g s₀ a₀ all s a rest → a + length (spread g rest) ≡ a₀ + length (spread g all)
  onward_pos {s = s} {a = a} {rest = rest} h = (h.on _ _ (runs_all s a rest)).pos

  pub onward_room : {s₀ s : S} {a₀ a : ℕ} {all rest : List B} → Onward f g s₀ a₀ all s a rest → Room g a₀ all → Room g a rest
  onward_room h r = omega (arith, onward_pos h)
