-- Document 02, request 5: what each call promises of answer and lent memory.
use Rattle.std.specs.Prelude.{◌≡◌, List, ℕ, length, ℤ, Float, Result}
use Rattle.replies.specs.Refusals.{reply_of}
use Rattle.replies.specs.declared.Refusal.{Refusal}
use Rattle.oldest.specs.Calls.{import_reply, import_out, export_reply, export_out}

-- ---- the promises: reply, number and every lent number afterwards

pub record Imports (floats : List Float) (out₀ : List ℤ) (answer : Result ℕ Refusal) (out₁ : List ℤ) : Type 0 where
  pub reply : reply_of answer ≡ import_reply floats (length out₀)
  pub out : out₁ ≡ import_out floats out₀

pub record Exports (numbers : List ℤ) (out₀ : List Float) (answer : Result ℕ Refusal) (out₁ : List Float) : Type 0 where
  pub reply : reply_of answer ≡ export_reply numbers (length out₀)
  pub out : out₁ ≡ export_out numbers out₀
