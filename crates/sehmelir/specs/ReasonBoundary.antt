-- Document 02, requests 1 and 7: explain and list as numbers.
use Rattle.std.specs.Prelude.{◌≡◌, List, ℕ, length}
use Rattle.replies.specs.Replies.{Reply as Answer}
use Rattle.reasons.specs.Reasons.{reason_number, exactness_of}
use Rattle.reasons.specs.Lists.{exact_number}
use Rattle.reasons.specs.declared.Why.{Why}
use Rattle.explaining.specs.Explaining.{explain_reply, explain_why, list_reply, list_out}
use Rattle.sehmelir.specs.Boundary.{Replies}
use Rattle.sehmelir.specs.declared.Reply.{Reply}
use Rattle.sehmelir.specs.declared.reason_calls.ReasonReply.{ReasonReply}

-- a reply and number, and why an edge is there
pub record ReasonReplies (p : ReasonReply) (told : Answer) (w : Why) : Type 0 where
  pub reply : p.reply ≡ told.0
  pub reason : p.reason ≡ reason_number w.reason
  pub number : p.number ≡ told.1
  pub vertex : p.vertex ≡ w.vertex
  pub place : p.place ≡ w.place
  pub start : p.start ≡ exact_number (exactness_of w.reason).a
  pub end : p.end ≡ exact_number (exactness_of w.reason).b

-- explain: reply, number, reason, vertex and place, and whether the ends are exact; the store is only read
pub record ExplainReplies (store : List ℕ) (edge : ℕ) (p : ReasonReply) : Type 0 where
  pub replies : ReasonReplies p (explain_reply store edge) (explain_why store edge)

-- list: reply, number and every lent number afterwards; the store is only read
pub record ListReplies (store : List ℕ) (out₀ : List ℕ) (r : Reply) (out₁ : List ℕ) : Type 0 where
  pub replies : Replies r (list_reply store (length out₀)) 0
  pub out : out₁ ≡ list_out store out₀

-- Document 01, "Promises and hollow programs": two outcomes that a call's promise allows coincide.
abbrev pub OneExplainReply : Type 0
OneExplainReply = (s : List ℕ) (k : ℕ) (p q : ReasonReply) → ExplainReplies s k p → ExplainReplies s k q → p ≡ q

abbrev pub OneListReply : Type 0
OneListReply = (s out : List ℕ) (r q : Reply) (o p : List ℕ) → ListReplies s out r o → ListReplies s out q p → (r ≡ q) × (o ≡ p)
