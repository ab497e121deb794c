-- A reply is what the documents say, number by number, so a promise allows one. Assumes nothing.
use mathlib.Core.Path.{◌≡◌, sym, ◌∙◌}
use Prim.Native.Nat.{ℕ}
use Rattle.replies.specs.Replies.{Reply as Answer}
use Rattle.sehmelir.specs.Boundary.{Replies, PathReplies, OneDrawReply, OneDrawKerbReply, OneKeepReply, OneKeepKerbReply, OneReadReply, OneNumbersReply, OneReplaceReply, OneReachReply, OneTelling, OneImportReply, OneExportReply}
use Rattle.outline.specs.declared.Form.{Form}
use Rattle.sehmelir.specs.declared.Path.{Path}
use Rattle.sehmelir.specs.declared.Reply.{Reply}

pub one_reply : (t : Answer) (g : ℕ) (r q : Reply) → Replies r t g → Replies q t g → r ≡ q
one_reply t g r q a b =
    λ i. record { reply = (a.reply ∙ sym b.reply) i; grade = (a.grade ∙ sym b.grade) i; number = (a.number ∙ sym b.number) i }

pub one_draw_reply : OneDrawReply
one_draw_reply path g out r q o p a b = (one_reply _ _ r q a.replies b.replies, a.out ∙ sym b.out)

pub one_draw_kerb_reply : OneDrawKerbReply
one_draw_kerb_reply points g r j c out a b o p h k = (one_reply _ _ a b h.replies k.replies, h.out ∙ sym k.out)

pub one_keep_reply : OneKeepReply
one_keep_reply path ps g out r q o p a b = (one_reply _ _ r q a.replies b.replies, a.out ∙ sym b.out)

pub one_keep_kerb_reply : OneKeepKerbReply
one_keep_kerb_reply points g r j c out a b o p h k = (one_reply _ _ a b h.replies k.replies, h.out ∙ sym k.out)

one_path : (t : Answer) (g : ℕ) (f : Form) (r q : Path) → PathReplies r t g f → PathReplies q t g f → r ≡ q
one_path t g f r q a b = λ i. record {
  reply = (a.reply ∙ sym b.reply) i;
  grade = (a.grade ∙ sym b.grade) i;
  number = (a.number ∙ sym b.number) i;
  kind = (a.kind ∙ sym b.kind) i;
  radius = (a.radius ∙ sym b.radius) i;
  join = (a.join ∙ sym b.join) i;
  closed = (a.closed ∙ sym b.closed) i;
}

pub one_read_reply : OneReadReply
one_read_reply s out r q o p a b = (one_path _ _ _ r q a.replies b.replies, a.out ∙ sym b.out)

pub one_numbers_reply : OneNumbersReply
one_numbers_reply s out r q o p a b = (one_reply _ _ r q a.replies b.replies, a.out ∙ sym b.out)

pub one_replace_reply : OneReplaceReply
one_replace_reply s k v r q o p a b = (one_reply _ _ r q a.replies b.replies, a.store ∙ sym b.store)

pub one_reach_reply : OneReachReply
one_reach_reply s k r q a b = one_reply _ _ r q a.replies b.replies

pub one_telling : OneTelling
one_telling t p q a b = λ i. record { reason = (a.reason ∙ sym b.reason) i; whole = (a.whole ∙ sym b.whole) i }

pub one_import_reply : OneImportReply
one_import_reply floats out r q o p a b = (one_reply _ _ r q a.replies b.replies, a.out ∙ sym b.out)

pub one_export_reply : OneExportReply
one_export_reply path out r q o p a b = (one_reply _ _ r q a.replies b.replies, a.out ∙ sym b.out)
