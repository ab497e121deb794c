-- A part from what the code has put into it, and that a promise allows one. Assumes nothing.
use Rattle.std.specs.Prelude.{Result, Ok, Err}
use mathlib.Core.Path.{◌≡◌, sym, ◌∙◌}
use mathlib.Core.Bool.{false}
use Prim.Native.Nat.{ℕ}
use lib.Dec.{eqb}
use Rattle.replies.specs.Replies.{Reply as Answer}
use Rattle.replies.specs.Refusals.{refusal_of, Codes}
use Rattle.replies.specs.declared.Code.{Code}
use Rattle.replies.specs.declared.Refusal.{Refusal}
use Rattle.chunks.specs.Answers.{reply_of_found, offset_of_found}
use Rattle.chunks.specs.declared.part.Part.{Part as Found}
use Rattle.sehmelir.specs.ChunkBoundary.{part_length, PartReplies, OneMakeReply, OneAddReply, OneRemoveReply, OneCompactReply, OneFindReply}
use Rattle.sehmelir.specs.declared.chunk_calls.Part.{Part}
use Rattle.replies.proofs.Rows.{refusal_some}
use Rattle.sehmelir.proofs.OneReply.{one_reply}

pub part_as : {p : Part} {s t : Answer} {o q : ℕ} → s ≡ t → o ≡ q → PartReplies p s o → PartReplies p t q
part_as e f h = rw (e, f) at h

pub part_found : {p : Part} {a : Result Found Refusal} {f : Found} → a ≡ Ok f → (p.reply ≡ 0) × (p.zero ≡ 0) × (p.number ≡ f.size) × (p.offset ≡ f.offset) × (p.length ≡ f.size) → PartReplies p (reply_of_found a) (offset_of_found a)
unfolding reply_of_found offset_of_found part_length
part_found e h = rw e (record { reply = h.0; zero = h.1; number = h.2; offset = h.3; length = h.4 })

pub part_code : {p : Part} {c : Code} (r : Refusal) → Codes c (refusal_of r) → (p.reply ≡ c.reply) × (p.zero ≡ 0) × (p.number ≡ c.number) × (p.offset ≡ 0) × (p.length ≡ 0) → PartReplies p (refusal_of r) 0
unfolding part_length
part_code r e h =
    let f : eqb (refusal_of r).0 0 ≡ false = refusal_some r in
    record { reply = h.0 ∙ e.reply; zero = h.1; number = h.2 ∙ e.number; offset = h.3; length = h.4 ∙ rw (f, part_length) }

pub part_refused : {p : Part} {a : Result Found Refusal} {r : Refusal} → a ≡ Err r → PartReplies p (refusal_of r) 0 → PartReplies p (reply_of_found a) (offset_of_found a)
unfolding reply_of_found offset_of_found
part_refused e h = rw e h

-- ---- one outcome

pub one_make_reply : OneMakeReply
one_make_reply c n r q o p a b = (one_reply _ _ r q a.replies b.replies, a.chunk ∙ sym b.chunk)

pub one_add_reply : OneAddReply
one_add_reply c key s r q o p a b = (one_reply _ _ r q a.replies b.replies, a.chunk ∙ sym b.chunk)

pub one_remove_reply : OneRemoveReply
one_remove_reply c key r q o p a b = (one_reply _ _ r q a.replies b.replies, a.chunk ∙ sym b.chunk)

pub one_compact_reply : OneCompactReply
one_compact_reply c r q o p a b = (one_reply _ _ r q a.replies b.replies, a.chunk ∙ sym b.chunk)

pub one_find_reply : OneFindReply
one_find_reply c key p q a b =
    λ i. record {
      reply = (a.replies.reply ∙ sym b.replies.reply) i;
      zero = (a.replies.zero ∙ sym b.replies.zero) i;
      number = (a.replies.number ∙ sym b.replies.number) i;
      offset = (a.replies.offset ∙ sym b.replies.offset) i;
      length = (a.replies.length ∙ sym b.replies.length) i;
    }
