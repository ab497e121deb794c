-- Document 02, requests 1 and 7: explain and list, their answers and their promises.
use Rattle.std.specs.Prelude.{◌≡◌, true, false, List, [], ◌∷◌, ◌++◌, ℕ, ◌*◌, eqb, leb, length, get_or, Result, Ok, Err}
use Rattle.runs.specs.Runs.{spread}
use Rattle.outline.specs.Stores.{grade_in, path_in}
use Rattle.replies.specs.Replies.{Reply, Row, first_row, room_row, written}
use Rattle.replies.specs.Refusals.{refusal_of, reply_of}
use Rattle.replies.specs.declared.Refusal.{Refusal}
use Rattle.heading.specs.StoreRows.{store_rows}
use Rattle.checking.specs.OtherKind.{other_kind_row}
use Rattle.reasons.specs.Reasons.{whys_of}
use Rattle.reasons.specs.Lists.{why_numbers, unnamed}
use Rattle.reasons.specs.declared.Why.{Why}
use Rattle.explaining.specs.declared.Explained.{Explained}

-- why each edge of a store is there
unfoldable pub whys_in : List ℕ → List Why
whys_in s = whys_of (grade_in s) (path_in s)

-- ---- explain one edge, beside the reply its reason, vertex and place, and of a side its exactness (all 0 when refused)

-- 10, no such edge: the edge number.
unfoldable pub edge_row : ℕ → ℕ → Row
edge_row m k = (leb m k, (10, k))

-- The rows of the store, 12 of the kind, 10 of the edge; else 0 with the edge's own number.
unfoldable pub explain_reply : List ℕ → ℕ → Reply
explain_reply s k = first_row (store_rows s ++ (other_kind_row s ∷ edge_row (length (whys_in s)) k ∷ [])) (0, k)

unfoldable pub explain_why : List ℕ → ℕ → Why
explain_why s k = elim (eqb (explain_reply s k).0 0) [ true ↦ get_or (whys_in s) k unnamed | false ↦ unnamed ]

unfoldable pub reply_of_explained : Result Explained Refusal → Reply
reply_of_explained (Ok e) = (0, e.edge)
reply_of_explained (Err r) = refusal_of r

unfoldable pub why_of_explained : Result Explained Refusal → Why
why_of_explained (Ok e) = e.why
why_of_explained (Err r) = unnamed

pub record Explains (store : List ℕ) (k : ℕ) (answer : Result Explained Refusal) : Type 0 where
  pub reply : reply_of_explained answer ≡ explain_reply store k
  pub why : why_of_explained answer ≡ explain_why store k

abbrev pub OneExplanation : Type 0
OneExplanation = (s : List ℕ) (k : ℕ) (r q : Result Explained Refusal) → Explains s k r → Explains s k q → r ≡ q

-- the same of a path whose store passed its rows and is of a stroke
pub record ExplainsIn (ws : List Why) (k : ℕ) (answer : Result Explained Refusal) : Type 0 where
  pub reply : reply_of_explained answer ≡ first_row (edge_row (length ws) k ∷ []) (0, k)
  pub why : why_of_explained answer ≡ (elim (leb (length ws) k) [ true ↦ unnamed | false ↦ get_or ws k unnamed ])

-- ---- list every edge into lent numbers, five an edge

-- The rows of the store, 12 of the kind, 5 of the room with the edges that there are; else 0 with them.
unfoldable pub list_reply : List ℕ → ℕ → Reply
list_reply s room =
    let m = length (whys_in s) in
    first_row (store_rows s ++ (other_kind_row s ∷ room_row (5 * m) room m ∷ [])) (0, m)

unfoldable pub list_out : List ℕ → List ℕ → List ℕ
list_out s room = written (list_reply s (length room)) (spread why_numbers (whys_in s)) room

pub record Lists (store : List ℕ) (out₀ : List ℕ) (answer : Result ℕ Refusal) (out₁ : List ℕ) : Type 0 where
  pub reply : reply_of answer ≡ list_reply store (length out₀)
  pub out : out₁ ≡ list_out store out₀

abbrev pub OneListing : Type 0
OneListing = (s out : List ℕ) (r q : Result ℕ Refusal) (o p : List ℕ) → Lists s out r o → Lists s out q p → (r ≡ q) × (o ≡ p)

-- the same of a path whose store passed its rows and is of a stroke
pub record ListsIn (ws : List Why) (out₀ : List ℕ) (answer : Result ℕ Refusal) (out₁ : List ℕ) : Type 0 where
  pub reply : reply_of answer ≡ first_row (room_row (5 * length ws) (length out₀) (length ws) ∷ []) (0, length ws)
  pub out : out₁ ≡ written (first_row (room_row (5 * length ws) (length out₀) (length ws) ∷ []) (0, length ws)) (spread why_numbers ws) out₀
