-- Document 02, request 5: what a pass over answers does, below the calls: it goes up to the first that is not taken, and has then
-- written what was taken, if that was all.
use Rattle.std.specs.Prelude.{◌≡◌, ℕ, ◌+◌, ◌<◌, List, length, Result, Ok, Err}
use Rattle.std.proofs.Math.Option.{Option}
use Rattle.runs.specs.Runs.{over, put}
use Rattle.replies.specs.Replies.{Reply}
use Rattle.oldest.specs.Calls.{taken_of, pass_reply, pass_out}

pub record Converts {B : Type 0} (os : List (Option B)) (at : ℕ) (out₀ : List B) (r : ℕ) (out₁ : List B) : Type 0 where
  pub place : r ≡ at + length (taken_of os)
  pub out : length (taken_of os) ≡ length os → out₁ ≡ over put out₀ at (taken_of os)

-- the same, by what is answered: all were taken, or the place of the first that was not
abbrev pub Goes : {T B : Type 0} → List (Option B) → ℕ → List B → Result T ℕ → List B → Type 0
Goes os at out₀ (Ok done) out₁ = Converts os at out₀ (at + length os) out₁
Goes os at out₀ (Err place) out₁ = Converts os at out₀ place out₁ × (place < at + length os)

-- a reply to the numbers lent, and the room as it was and as it is
pub record Passes {A B : Type 0} (f g : A → Option B) (l : List A) (out₀ : List B) (told : Reply) (out₁ : List B) : Type 0 where
  pub reply : told ≡ pass_reply f g l (length out₀)
  pub out : out₁ ≡ pass_out f g l out₀
