-- Document 02, request 11: a call like reading that gives the point numbers back, its answer and its promise.
use Rattle.std.specs.Prelude.{◌≡◌, List, [], ◌∷◌, ◌++◌, ℕ, ◌≤◌, length, drop, Result}
use Rattle.contacts.specs.declared.Vertex.{Vertex}
use Rattle.outline.specs.Outlines.{outline_bytes}
use Rattle.outline.specs.Stores.{path_in, posts_in}
use Rattle.outline.specs.Theorems.{Formed}
use Rattle.outline.specs.declared.Edition.{Edition}
use Rattle.outline.specs.declared.Form.TheVariants.{Stroke}
use Rattle.replies.specs.Replies.{Reply, first_row, room_row, written}
use Rattle.replies.specs.Refusals.{reply_of}
use Rattle.replies.specs.declared.Refusal.{Refusal}
use Rattle.heading.specs.StoreRows.{store_rows}
use Rattle.checking.specs.OtherKind.{other_kind_row}

-- The rows of a store, 12, then 5 with the vertices.
unfoldable pub posts_reply : List ℕ → ℕ → Reply
posts_reply s room =
    let n = length (path_in s) in
    first_row (store_rows s ++ (other_kind_row s ∷ room_row n room n ∷ [])) (0, n)

unfoldable pub posts_out : List ℕ → List ℕ → List ℕ
posts_out s room = written (posts_reply s (length room)) (posts_in s) room

pub record ReadsPosts (store : List ℕ) (out₀ : List ℕ) (answer : Result ℕ Refusal) (out₁ : List ℕ) : Type 0 where
  pub reply : reply_of answer ≡ posts_reply store (length out₀)
  pub out : out₁ ≡ posts_out store out₀

-- Read so into enough room, an outline of either edition gives its posts.
abbrev pub KeptPostsAreRead : Type 0
KeptPostsAreRead = (e : Edition) (g : ℕ) (ps : List ℕ) (vs : List Vertex) (rest room : List ℕ) → Formed (Stroke e) g ps vs → length vs ≤ length room
    → (posts_reply (outline_bytes (Stroke e) g ps vs ++ rest) (length room) ≡ (0, length vs))
    × (posts_out (outline_bytes (Stroke e) g ps vs ++ rest) room ≡ ps ++ drop (length ps) room)

abbrev pub OnePostsReading : Type 0
OnePostsReading = (s out : List ℕ) (r q : Result ℕ Refusal) (o p : List ℕ) → ReadsPosts s out r o → ReadsPosts s out q p → (r ≡ q) × (o ≡ p)
