-- Document 02, request 14: what of a store of kind 0 differs from what its own header and vertices give, and the notes that list it.
use Rattle.std.specs.Prelude.{Bool, true, false, not, List, [], ◌∷◌, ◌++◌, ℕ, suc, ◌+◌, ◌*◌, ◌/◌, eqb, length, take, drop}
use Rattle.turning.specs.declared.Edge.{Edge}
use Rattle.paths.specs.Paths.{bodies_of, edges_of}
use Rattle.contacts.specs.declared.Vertex.{Vertex}
use Rattle.words.specs.Words.{bytes_of, word_at}
use Rattle.outline.specs.Layout.{edge_bytes, front_bytes}
use Rattle.outline.specs.Outlines.{body_words}
use Rattle.outline.specs.Stores.{edition_in, edition_of, grade_in, count_in, path_in, same_bytes, edges_in, edges_before}
use Rattle.outline.specs.declared.Form.TheVariants.{Stroke}

-- Old edges are found by the old counts: the byte at which those of body i begin.
unfoldable pub old_at : List ℕ → ℕ → ℕ
old_at s i = front_bytes (Stroke (edition_of (edition_in s))) (count_in s) + edge_bytes * edges_before s i

-- They are compared up to the smaller count; where they run past the bytes they differ. `es` are the edges that are due.
unfoldable pub edges_differ : List ℕ → ℕ → ℕ → List Edge → Bool
edges_differ s at old es =
    let due = bytes_of (body_words (take old es)) in
    not (same_bytes (take (length due) (drop at s)) due)

-- What differs: 1 the edge count, 2 the edges, 3 both; 0 neither.
unfoldable pub count_number : ℕ → ℕ → ℕ
count_number old due = elim (eqb old due) [ true ↦ 0 | false ↦ 1 ]

unfoldable pub edges_number : Bool → ℕ
edges_number false = 0
edges_number true = 2

unfoldable pub difference_of : List ℕ → ℕ → ℕ → List Edge → ℕ
difference_of s at old es = count_number old (length es) + edges_number (edges_differ s at old es)

-- For each vertex, then the closing part the same way: that of body i and those after it.
unfoldable pub differences_from : List ℕ → ℕ → List (List Edge) → List ℕ
differences_from s i [] = []
differences_from s i (b ∷ bs) = difference_of s (old_at s i) (edges_in s i) b ∷ differences_from s (suc i) bs

-- Then the header's edge total: 4, or 0 where it is right.
unfoldable pub total_number : ℕ → ℕ → ℕ
total_number old due = elim (eqb old due) [ true ↦ 0 | false ↦ 4 ]

unfoldable pub differences_of : List ℕ → ℕ → List Vertex → List ℕ
differences_of s g vs = differences_from s 0 (bodies_of g vs) ++ (total_number (word_at s 4) (length (edges_of g vs)) ∷ [])

unfoldable pub differences_in : List ℕ → List ℕ
differences_in s = differences_of s (grade_in s) (path_in s)

-- A note is two words, place and what: a vertex's index, n for the closing part, n + 1 for the total. What does not differ has none.
unfoldable pub note_of : ℕ → ℕ → List ℕ
note_of place what = elim (eqb what 0) [ true ↦ [] | false ↦ place ∷ what ∷ [] ]

unfoldable pub notes_from : ℕ → List ℕ → List ℕ
notes_from place [] = []
notes_from place (what ∷ more) = note_of place what ++ notes_from (suc place) more

unfoldable pub notes_in : List ℕ → List ℕ
notes_in s = notes_from 0 (differences_in s)

-- how many notes there are
unfoldable pub note_count : List ℕ → ℕ
note_count s = length (notes_in s) / 2
