-- Document 01, "Replies, tested in this order": draw, its answer and its promise. Its row 18 is document 02's, request 9, and grade 1 is retired by request 13.
use Rattle.std.specs.Prelude.{List, [], ◌∷◌, ◌++◌, ℕ, ◌*◌, ◌%◌, ◌≤◌, ◌<◌, ℤ, length, ◌≡◌, Result}
use Rattle.runs.specs.Runs.{spread}
use Rattle.turning.specs.Edges.{edge_numbers}
use Rattle.paths.specs.Paths.{path_of, edges_of, Within}
use Rattle.replies.specs.Replies.{Reply, first_row, empty_row, room_row, path_rows, written}
use Rattle.replies.specs.Refusals.{reply_of}
use Rattle.replies.specs.declared.Refusal.{Refusal}

-- ---- draw a path's edges into lent numbers, four an edge

unfoldable pub draw_reply : List ℤ → ℕ → ℕ → Reply
draw_reply l g room =
    let m = length (edges_of g (path_of l)) in
    first_row (path_rows l g ++ (empty_row (length (path_of l)) m ∷ room_row (4 * m) room m ∷ [])) (0, m)

unfoldable pub draw_out : List ℤ → ℕ → List ℤ → List ℤ
draw_out l g room = written (draw_reply l g (length room)) (spread edge_numbers (edges_of g (path_of l))) room

-- ---- the promises: reply, number and every lent number or byte afterwards

pub record Draws (path : List ℤ) (grade : ℕ) (out₀ : List ℤ) (answer : Result ℕ Refusal) (out₁ : List ℤ) : Type 0 where
  pub reply : reply_of answer ≡ draw_reply path grade (length out₀)
  pub out : out₁ ≡ draw_out path grade out₀

-- Numbers lent as triples, a grade from 2 on, vertices within the limits, an edge where there are vertices (document 02, request 9) and room enough are drawn.
abbrev pub PathIsDrawn : Type 0
PathIsDrawn = (path : List ℤ) (g room : ℕ) → length path % 3 ≡ 0 → 2 ≤ g → Within g (path_of path) → (0 < length (path_of path) → 0 < length (edges_of g (path_of path)))
    → 4 * length (edges_of g (path_of path)) ≤ room
    → draw_reply path g room ≡ (0, length (edges_of g (path_of path)))

-- Each call has one outcome: two that its promise allows coincide.
abbrev pub OneDrawing : Type 0
OneDrawing = (path : List ℤ) (g : ℕ) (out : List ℤ) (r q : Result ℕ Refusal) (o p : List ℤ) → Draws path g out r o → Draws path g out q p → (r ≡ q) × (o ≡ p)
