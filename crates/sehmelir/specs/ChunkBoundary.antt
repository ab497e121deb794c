-- Document 02, request 8: the calls on a chunk as numbers.
use Rattle.std.specs.Prelude.{◌≡◌, true, false, List, ℕ, eqb}
use Rattle.replies.specs.Replies.{Reply as Answer}
use Rattle.chunks.specs.Calls.{make_reply, make_out, find_reply, find_offset, remove_reply, remove_out, compact_reply, compact_out}
use Rattle.chunk_adding.specs.Adding.{add_reply, add_out}
use Rattle.sehmelir.specs.Boundary.{Replies}
use Rattle.sehmelir.specs.declared.Reply.{Reply}
use Rattle.sehmelir.specs.declared.chunk_calls.Part.{Part}

-- how long a part is: the number with 0, and 0 when refused
unfoldable pub part_length : Answer → ℕ
part_length told = elim (eqb told.0 0) [ true ↦ told.1 | false ↦ 0 ]

-- a reply and number, and where a part begins
pub record PartReplies (p : Part) (told : Answer) (at : ℕ) : Type 0 where
  pub reply : p.reply ≡ told.0
  pub zero : p.zero ≡ 0
  pub number : p.number ≡ told.1
  pub offset : p.offset ≡ at
  pub length : p.length ≡ part_length told

-- make, add, remove, compact: reply, number and every byte of the chunk afterwards
pub record MakeReplies (c₀ : List ℕ) (entries : ℕ) (r : Reply) (c₁ : List ℕ) : Type 0 where
  pub replies : Replies r (make_reply c₀ entries) 0
  pub chunk : c₁ ≡ make_out c₀ entries

pub record AddReplies (c₀ : List ℕ) (key : ℕ) (outline : List ℕ) (r : Reply) (c₁ : List ℕ) : Type 0 where
  pub replies : Replies r (add_reply c₀ key outline) 0
  pub chunk : c₁ ≡ add_out c₀ key outline

pub record RemoveReplies (c₀ : List ℕ) (key : ℕ) (r : Reply) (c₁ : List ℕ) : Type 0 where
  pub replies : Replies r (remove_reply c₀ key) 0
  pub chunk : c₁ ≡ remove_out c₀ key

pub record CompactReplies (c₀ : List ℕ) (r : Reply) (c₁ : List ℕ) : Type 0 where
  pub replies : Replies r (compact_reply c₀) 0
  pub chunk : c₁ ≡ compact_out c₀

-- find: reply, number, offset and length; the chunk is only read
pub record FindReplies (c : List ℕ) (key : ℕ) (p : Part) : Type 0 where
  pub replies : PartReplies p (find_reply c key) (find_offset c key)

-- Document 01, "Promises and hollow programs": two outcomes that a call's promise allows coincide.
abbrev pub OneMakeReply : Type 0
OneMakeReply = (c : List ℕ) (n : ℕ) (r q : Reply) (o p : List ℕ) → MakeReplies c n r o → MakeReplies c n q p → (r ≡ q) × (o ≡ p)

abbrev pub OneAddReply : Type 0
OneAddReply = (c : List ℕ) (key : ℕ) (s : List ℕ) (r q : Reply) (o p : List ℕ) → AddReplies c key s r o → AddReplies c key s q p → (r ≡ q) × (o ≡ p)

abbrev pub OneRemoveReply : Type 0
OneRemoveReply = (c : List ℕ) (key : ℕ) (r q : Reply) (o p : List ℕ) → RemoveReplies c key r o → RemoveReplies c key q p → (r ≡ q) × (o ≡ p)

abbrev pub OneCompactReply : Type 0
OneCompactReply = (c : List ℕ) (r q : Reply) (o p : List ℕ) → CompactReplies c r o → CompactReplies c q p → (r ≡ q) × (o ≡ p)

abbrev pub OneFindReply : Type 0
OneFindReply = (c : List ℕ) (key : ℕ) (p q : Part) → FindReplies c key p → FindReplies c key q → p ≡ q
