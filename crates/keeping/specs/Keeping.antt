-- Document 01, "Replies, tested in this order": keep, its answer and its promise. Its row 18 is document 02's, request 9, its edition
-- and posts request 11, and grade 1 is retired by request 13.
use Rattle.std.specs.Prelude.{List, [], ◌∷◌, ◌++◌, ℕ, ◌%◌, ◌≤◌, ◌<◌, ℤ, length, take, ◌≡◌, Result}
use Rattle.contacts.specs.declared.Vertex.{Vertex}
use Rattle.paths.specs.Paths.{path_of, edges_of, Within}
use Rattle.outline.specs.Outlines.{edges_for, outline_bytes}
use Rattle.outline.specs.Theorems.{no_posts}
use Rattle.outline.specs.declared.Edition.TheVariants.{Second}
use Rattle.outline.specs.declared.Form.{Form}
use Rattle.outline.specs.declared.Form.TheVariants.{Stroke}
use Rattle.replies.specs.Replies.{Reply, Row, first_row, empty_row, room_row, path_rows, written}
use Rattle.replies.specs.Refusals.{reply_of}
use Rattle.replies.specs.declared.Refusal.{Refusal}

-- ---- keep them as bytes

-- 18, then 5: the rows of an outline that is to be written into so many bytes, after every row of its vertices.
unfoldable pub write_rows : Form → ℕ → List ℕ → List Vertex → ℕ → List Row
write_rows f g ps vs room =
    let m = length (outline_bytes f g ps vs) in
    empty_row (length vs) (length (edges_for f g vs)) ∷ room_row m room m ∷ []

-- Edition 2 is written, with the posts of the path's vertices.
unfoldable pub keep_reply : List ℤ → List ℕ → ℕ → ℕ → Reply
keep_reply l ps g room =
    first_row (path_rows l g ++ write_rows (Stroke Second) g ps (path_of l) room) (0, length (outline_bytes (Stroke Second) g ps (path_of l)))

unfoldable pub keep_out : List ℤ → List ℕ → ℕ → List ℕ → List ℕ
keep_out l ps g room = written (keep_reply l ps g (length room)) (outline_bytes (Stroke Second) g ps (path_of l)) room

-- Where a path comes without point numbers, they are 0.
unfoldable pub plain_posts : List ℤ → List ℕ
plain_posts l = no_posts (length (path_of l))

pub record Keeps (path : List ℤ) (posts : List ℕ) (grade : ℕ) (out₀ : List ℕ) (answer : Result ℕ Refusal) (out₁ : List ℕ) : Type 0 where
  pub reply : reply_of answer ≡ keep_reply path posts grade (length out₀)
  pub out : out₁ ≡ keep_out path posts grade out₀

-- Numbers lent as triples, a grade from 2 on, vertices within the limits, an edge where there are vertices and room enough are kept.
abbrev pub PathIsKept : Type 0
PathIsKept = (path : List ℤ) (ps : List ℕ) (g room : ℕ) → length path % 3 ≡ 0 → 2 ≤ g → Within g (path_of path) → (0 < length (path_of path) → 0 < length (edges_of g (path_of path)))
    → length (outline_bytes (Stroke Second) g ps (path_of path)) ≤ room
    → keep_reply path ps g room ≡ (0, length (outline_bytes (Stroke Second) g ps (path_of path)))

-- A path, its posts and a grade keep to one outline: what was kept in one room is kept in any other that holds it, in the same bytes.
abbrev pub OneOutlineKept : Type 0
OneOutlineKept = (path : List ℤ) (ps : List ℕ) (g m : ℕ) (a b : List ℕ) → keep_reply path ps g (length a) ≡ (0, m) → m ≤ length b
    → (keep_reply path ps g (length b) ≡ (0, m))
    × (take m (keep_out path ps g b) ≡ take m (keep_out path ps g a))

abbrev pub OneKeeping : Type 0
OneKeeping = (path : List ℤ) (ps : List ℕ) (g : ℕ) (out : List ℕ) (r q : Result ℕ Refusal) (o p : List ℕ) → Keeps path ps g out r o → Keeps path ps g out q p → (r ≡ q) × (o ≡ p)
