-- Document 02, request 8: add, its rows and its promise.
use Rattle.std.specs.Prelude.{◌≡◌, Result, List, ◌∷◌, ◌++◌, ℕ, take}
use Rattle.replies.specs.Replies.{Reply, first_row}
use Rattle.outline.specs.Stores.{length_in}
use Rattle.heading.specs.StoreRows.{store_rows}
use Rattle.replies.specs.Refusals.{reply_of}
use Rattle.chunks.specs.Calls.{table_row, put_rows, added_in, changed}
use Rattle.chunks.specs.Chunks.{gap_in}
use Rattle.replies.specs.declared.Refusal.{Refusal}

-- the outline's own bytes: lent bytes may go on after it
unfoldable pub own_bytes : List ℕ → List ℕ
own_bytes store = take (length_in store) store

-- ---- add: the outline's bytes. Its own refusals, as in reading but 5, come after 14 and before the others.

unfoldable pub add_reply : List ℕ → ℕ → List ℕ → Reply
add_reply c key store = first_row (table_row c ∷ (store_rows store ++ put_rows c key (length_in store))) (0, length_in store)

unfoldable pub add_out : List ℕ → ℕ → List ℕ → List ℕ
add_out c key store = changed (add_reply c key store) (added_in (gap_in c (length_in store)) c key (own_bytes store)) c

-- the promise: reply, number and every byte of the chunk afterwards; the outline is only read
pub record AddsOutline (c₀ : List ℕ) (key : ℕ) (store : List ℕ) (answer : Result ℕ Refusal) (c₁ : List ℕ) : Type 0 where
  pub reply : reply_of answer ≡ add_reply c₀ key store
  pub chunk : c₁ ≡ add_out c₀ key store

-- Two outcomes that the promise allows coincide.
abbrev pub OneAdding : Type 0
OneAdding = (c : List ℕ) (key : ℕ) (store : List ℕ) (r q : Result ℕ Refusal) (o p : List ℕ) → AddsOutline c key store r o → AddsOutline c key store q p → (r ≡ q) × (o ≡ p)
