-- Document 02, request 8: the number and value for each case of an answer, and what each call promises of answer and chunk.
use Rattle.std.specs.Prelude.{◌≡◌, Result, Ok, Err, List, ℕ, length}
use Rattle.replies.specs.Refusals.{refusal_of, reply_of}
use Rattle.replies.specs.Replies.{Reply}
use Rattle.chunks.specs.Calls.{make_reply, make_out, find_reply, find_offset, remove_reply, remove_out, compact_reply, compact_out, put_reply, put_out}
use Rattle.chunks.specs.declared.part.Part.{Part}
use Rattle.replies.specs.declared.Refusal.{Refusal}

-- where an outline stands as a reply: its length
unfoldable pub reply_of_found : Result Part Refusal → Reply
reply_of_found (Ok p) = (0, p.size)
reply_of_found (Err r) = refusal_of r

-- the offset beside the reply, 0 when refused
unfoldable pub offset_of_found : Result Part Refusal → ℕ
offset_of_found (Ok p) = p.offset
offset_of_found (Err r) = 0

-- ---- the promises: reply, number and every byte of the chunk afterwards

pub record MakesChunk (c₀ : List ℕ) (entries : ℕ) (answer : Result ℕ Refusal) (c₁ : List ℕ) : Type 0 where
  pub reply : reply_of answer ≡ make_reply c₀ entries
  pub chunk : c₁ ≡ make_out c₀ entries

pub record FindsKey (c : List ℕ) (key : ℕ) (answer : Result Part Refusal) : Type 0 where
  pub reply : reply_of_found answer ≡ find_reply c key
  pub offset : offset_of_found answer ≡ find_offset c key

pub record RemovesKey (c₀ : List ℕ) (key : ℕ) (answer : Result ℕ Refusal) (c₁ : List ℕ) : Type 0 where
  pub reply : reply_of answer ≡ remove_reply c₀ key
  pub chunk : c₁ ≡ remove_out c₀ key

pub record CompactsChunk (c₀ : List ℕ) (answer : Result ℕ Refusal) (c₁ : List ℕ) : Type 0 where
  pub reply : reply_of answer ≡ compact_reply c₀
  pub chunk : c₁ ≡ compact_out c₀

-- what is left of adding once the table is known to be sound, and the outline too
pub record PutsOutline (c₀ : List ℕ) (key : ℕ) (made : List ℕ) (answer : Result ℕ Refusal) (c₁ : List ℕ) : Type 0 where
  pub reply : reply_of answer ≡ put_reply c₀ key (length made)
  pub chunk : c₁ ≡ put_out c₀ key made

-- Each call has one outcome: two that its promise allows coincide.
abbrev pub OneMaking : Type 0
OneMaking = (c : List ℕ) (n : ℕ) (r q : Result ℕ Refusal) (o p : List ℕ) → MakesChunk c n r o → MakesChunk c n q p → (r ≡ q) × (o ≡ p)

abbrev pub OneFinding : Type 0
OneFinding = (c : List ℕ) (key : ℕ) (r q : Result Part Refusal) → FindsKey c key r → FindsKey c key q → r ≡ q

abbrev pub OneRemoving : Type 0
OneRemoving = (c : List ℕ) (key : ℕ) (r q : Result ℕ Refusal) (o p : List ℕ) → RemovesKey c key r o → RemovesKey c key q p → (r ≡ q) × (o ≡ p)

abbrev pub OneCompacting : Type 0
OneCompacting = (c : List ℕ) (r q : Result ℕ Refusal) (o p : List ℕ) → CompactsChunk c r o → CompactsChunk c q p → (r ≡ q) × (o ≡ p)
