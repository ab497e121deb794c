-- Document 02, request 13: the conversion of a kept outline as numbers.
use Rattle.std.specs.Prelude.{◌≡◌, List, ℕ}
use Rattle.converting.specs.Converting.{convert_reply, convert_out}
use Rattle.sehmelir.specs.Boundary.{Replies}
use Rattle.sehmelir.specs.declared.Reply.{Reply}

-- convert: reply, number and every byte of the store afterwards
pub record ConvertReplies (store₀ : List ℕ) (grade : ℕ) (r : Reply) (store₁ : List ℕ) : Type 0 where
  pub replies : Replies r (convert_reply store₀ grade) 0
  pub store : store₁ ≡ convert_out store₀ grade

-- Document 01, "Promises and hollow programs": two outcomes that a call's promise allows coincide.
abbrev pub OneConvertReply : Type 0
OneConvertReply = (s : List ℕ) (g : ℕ) (r q : Reply) (o p : List ℕ) → ConvertReplies s g r o → ConvertReplies s g q p → (r ≡ q) × (o ≡ p)
