-- A salvage's reply from what the code has put into it, and that a promise allows one. Assumes nothing.
use Rattle.std.specs.Prelude.{Result, Ok, Err}
use mathlib.Core.Path.{◌≡◌, sym, ◌∙◌}
use Prim.Native.Nat.{ℕ}
use Rattle.replies.specs.Replies.{Reply as Answer}
use Rattle.replies.specs.Refusals.{refusal_of, Codes}
use Rattle.replies.specs.declared.Code.{Code}
use Rattle.replies.specs.declared.Refusal.{Refusal}
use Rattle.salvaging.specs.Salvaging.{reply_of_salvaged, notes_of_salvaged}
use Rattle.salvaging.specs.declared.Salvaged.{Salvaged}
use Rattle.sehmelir.specs.SalvageBoundary.{SalvagedReplies, OneSalvageReply}
use Rattle.sehmelir.specs.declared.salvage_calls.SalvageReply.{SalvageReply}

pub salvaged_as : {p : SalvageReply} {s t : Answer} {k n : ℕ} → s ≡ t → k ≡ n → SalvagedReplies p s k → SalvagedReplies p t n
salvaged_as e f h = rw (e, f) at h

pub salvaged_code : {p : SalvageReply} {c : Code} (r : Refusal) → Codes c (refusal_of r) → (p.reply ≡ c.reply) × (p.zero ≡ 0) × (p.number ≡ c.number) × (p.entries ≡ 0) → SalvagedReplies p (refusal_of r) 0
salvaged_code r e h = record { reply = h.0 ∙ e.reply; zero = h.1; number = h.2 ∙ e.number; entries = h.3 }

pub salvaged_outline : {p : SalvageReply} {a : Result Salvaged Refusal} {made : Salvaged} → a ≡ Ok made → (p.reply ≡ 0) × (p.zero ≡ 0) × (p.number ≡ made.bytes) × (p.entries ≡ made.notes) → SalvagedReplies p (reply_of_salvaged a) (notes_of_salvaged a)
unfolding reply_of_salvaged notes_of_salvaged
salvaged_outline e h = rw e (record { reply = h.0; zero = h.1; number = h.2; entries = h.3 })

pub salvaged_refused : {p : SalvageReply} {a : Result Salvaged Refusal} {r : Refusal} → a ≡ Err r → SalvagedReplies p (refusal_of r) 0 → SalvagedReplies p (reply_of_salvaged a) (notes_of_salvaged a)
unfolding reply_of_salvaged notes_of_salvaged
salvaged_refused e h = rw e h

-- ---- one outcome

pub one_salvage_reply : OneSalvageReply
one_salvage_reply s out list r q o p m n a b = (
  λ i. record {
    reply = (a.replies.reply ∙ sym b.replies.reply) i;
    zero = (a.replies.zero ∙ sym b.replies.zero) i;
    number = (a.replies.number ∙ sym b.replies.number) i;
    entries = (a.replies.entries ∙ sym b.replies.entries) i;
  },
  a.out ∙ sym b.out,
  a.list ∙ sym b.list,
)
