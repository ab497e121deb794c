-- Document 01, "Replies, tested in this order", for the call that tells how far a replaced vertex reaches: replace's rows of the store and the index.
use Rattle.std.specs.Prelude.{◌≡◌, true, false, List, [], ◌∷◌, ◌++◌, ℕ, ltb, length, Result}
use Rattle.contacts.specs.declared.Vertex.{Vertex}
use Rattle.locality.specs.Local.{reach_of}
use Rattle.outline.specs.Stores.{path_in}
use Rattle.replies.specs.Replies.{Reply, first_row, index_row}
use Rattle.heading.specs.StoreRows.{store_rows}
use Rattle.checking.specs.OtherKind.{other_kind_row}
use Rattle.replies.specs.Refusals.{reply_of}
use Rattle.replies.specs.declared.Refusal.{Refusal}

-- Demand 3's j for vertex k, or the number of vertices where there is none.
unfoldable pub reached_of : List Vertex → ℕ → ℕ
reached_of vs k = elim (ltb (reach_of vs k) (length vs)) [ true ↦ reach_of vs k | false ↦ length vs ]

-- The rows of the store, 12 of the kind, 9 of the index; else 0 with that number.
unfoldable pub reach_reply : List ℕ → ℕ → Reply
reach_reply s k = first_row (store_rows s ++ (other_kind_row s ∷ index_row (length (path_in s)) k ∷ [])) (0, reached_of (path_in s) k)

-- the promise: reply and number; the store is only read
pub record Reaches (store : List ℕ) (index : ℕ) (answer : Result ℕ Refusal) : Type 0 where
  pub reply : reply_of answer ≡ reach_reply store index
