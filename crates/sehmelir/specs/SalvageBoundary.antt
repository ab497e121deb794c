-- Document 02, request 14: salvage as numbers.
use Rattle.std.specs.Prelude.{◌≡◌, List, ℕ, length}
use Rattle.replies.specs.Replies.{Reply as Answer}
use Rattle.differences.specs.Differences.{notes_in}
use Rattle.salvaging.specs.Salvaging.{salvage_reply, salvage_out, salvage_list, noted_with}
use Rattle.sehmelir.specs.declared.salvage_calls.SalvageReply.{SalvageReply}

-- a reply and number, and how many entries a list has
pub record SalvagedReplies (p : SalvageReply) (told : Answer) (k : ℕ) : Type 0 where
  pub reply : p.reply ≡ told.0
  pub zero : p.zero ≡ 0
  pub number : p.number ≡ told.1
  pub entries : p.entries ≡ k

-- salvage: reply, number, entries, every byte of the outline's room and every number of the list's afterwards; the store is only read
pub record SalvageReplies (store out₀ list₀ : List ℕ) (p : SalvageReply) (out₁ list₁ : List ℕ) : Type 0 where
  pub replies : SalvagedReplies p (salvage_reply store (length out₀) (length list₀)) (noted_with (salvage_reply store (length out₀) (length list₀)) (notes_in store))
  pub out : out₁ ≡ salvage_out store out₀ (length list₀)
  pub list : list₁ ≡ salvage_list store (length out₀) list₀

-- Document 01, "Promises and hollow programs": two outcomes that the call's promise allows coincide.
abbrev pub OneSalvageReply : Type 0
OneSalvageReply = (s out list : List ℕ) (r q : SalvageReply) (o p m n : List ℕ) → SalvageReplies s out list r o m → SalvageReplies s out list q p n → (r ≡ q) × (o ≡ p) × (m ≡ n)
