-- A reason from what the code has put into it, and that a promise allows one. Assumes nothing.
use Rattle.std.specs.Prelude.{Result, Ok, Err}
use mathlib.Core.Path.{◌≡◌, sym, ap, ◌∙◌}
use mathlib.Core.Bool.{Bool, true, false}
use Prim.Native.Nat.{ℕ, ◌<◌}
use native.Mathlib.Omega.{arith}
use Rattle.replies.specs.Replies.{Reply as Answer}
use Rattle.replies.specs.Refusals.{refusal_of, Codes}
use Rattle.replies.specs.declared.Code.{Code}
use Rattle.replies.specs.declared.Refusal.{Refusal}
use Rattle.reasons.specs.Reasons.{reason_number, exactness_of}
use Rattle.reasons.specs.Lists.{exact_number, unnamed}
use Rattle.contacts.specs.declared.Exactness.{Exactness}
use Rattle.reasons.specs.declared.Why.{Why}
use Rattle.reasons.specs.declared.Reason.{Reason}
use Rattle.reasons.specs.declared.Reason.TheVariants.{LeftSide, RightSide, StartCap, EndCap, LeftJoin, RightJoin, Gap, Circle}
use Rattle.explaining.specs.Explaining.{reply_of_explained, why_of_explained}
use Rattle.explaining.specs.declared.Explained.{Explained}
use Rattle.sehmelir.specs.ReasonBoundary.{ReasonReplies, OneExplainReply, OneListReply}
use Rattle.sehmelir.specs.declared.reason_calls.ReasonReply.{ReasonReply}
use Rattle.sehmelir.proofs.OneReply.{one_reply}

-- eight reasons
reason_below : (r : Reason) → reason_number r < 8
unfolding reason_number
reason_below (LeftSide e) = omega arith
reason_below (RightSide e) = omega arith
reason_below StartCap = omega arith
reason_below EndCap = omega arith
reason_below LeftJoin = omega arith
reason_below RightJoin = omega arith
reason_below Gap = omega arith
reason_below Circle = omega arith

pub reason_few : {n : ℕ} (r : Reason) → n ≡ reason_number r → n < 8
reason_few r e = rw e (reason_below r)

-- an exact end is told as 1, another as 0
exact_below : (b : Bool) → exact_number b < 2
unfolding exact_number
exact_below true = omega arith
exact_below false = omega arith

pub exact_few : {n : ℕ} (b : Bool) → n ≡ exact_number b → n < 2
exact_few b e = rw e (exact_below b)

pub exact_told : {n : ℕ} {x y : Exactness} (f : Exactness → Bool) → x ≡ y → n ≡ exact_number (f x) → n ≡ exact_number (f y)
exact_told f e g = g ∙ ap (λ (z : Exactness). exact_number (f z)) e

pub reason_code : {p : ReasonReply} {c : Code} (r : Refusal) → Codes c (refusal_of r) → p.reply ≡ c.reply → p.reason ≡ 0 → p.number ≡ c.number → p.vertex ≡ 0 → p.place ≡ 0
    → p.start ≡ 0 → p.end ≡ 0 → ReasonReplies p (refusal_of r) unnamed
unfolding reason_number exactness_of exact_number
reason_code r e er es en ev ep exs exe = record { reply = er ∙ e.reply; reason = es; number = en ∙ e.number; vertex = ev; place = ep; start = exs; end = exe }

pub reason_as : {p : ReasonReply} {s t : Answer} {v w : Why} → s ≡ t → v ≡ w → ReasonReplies p s v → ReasonReplies p t w
reason_as e f h = rw (e, f) at h

pub reason_edge : {p : ReasonReply} {a : Result Explained Refusal} {e : Explained} → a ≡ Ok e → ReasonReplies p (0, e.edge) e.why → ReasonReplies p (reply_of_explained a) (why_of_explained a)
unfolding reply_of_explained why_of_explained
reason_edge e h = rw e h

pub reason_refused : {p : ReasonReply} {a : Result Explained Refusal} {r : Refusal} → a ≡ Err r → ReasonReplies p (refusal_of r) unnamed → ReasonReplies p (reply_of_explained a) (why_of_explained a)
unfolding reply_of_explained why_of_explained
reason_refused e h = rw e h

-- ---- one outcome

pub one_explain_reply : OneExplainReply
one_explain_reply s k p q a b =
    λ i. record {
      reply = (a.replies.reply ∙ sym b.replies.reply) i;
      reason = (a.replies.reason ∙ sym b.replies.reason) i;
      number = (a.replies.number ∙ sym b.replies.number) i;
      vertex = (a.replies.vertex ∙ sym b.replies.vertex) i;
      place = (a.replies.place ∙ sym b.replies.place) i;
      start = (a.replies.start ∙ sym b.replies.start) i;
      end = (a.replies.end ∙ sym b.replies.end) i;
    }

pub one_list_reply : OneListReply
one_list_reply s out r q o p a b = (one_reply _ _ r q a.replies b.replies, a.out ∙ sym b.out)
