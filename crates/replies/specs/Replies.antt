-- Document 01, "Replies, tested in this order": rows, and lent memory afterwards.
use Rattle.std.specs.Prelude.{Bool, true, false, not, ◌&&◌, ◌||◌, List, [], ◌∷◌, ◌++◌, ℕ, ◌%◌, eqb, ltb, leb, ℤ, length, drop}
use Rattle.contacts.specs.Limits.{allowed_of, first_outside}
use Rattle.paths.specs.Paths.{path_of}
use Rattle.contacts.specs.declared.Vertex.{Vertex}

-- ---- rows

-- A reply, and the number with it.
abbrev pub Reply : Type 0
Reply = ℕ × ℕ

-- A row: whether it holds, and what is then replied.
abbrev pub Row : Type 0
Row = Bool × Reply

-- The first row that holds replies, or answers whatever else rows have beside them; else the last word.
unfoldable pub first_row {ℓ} : {A : Type ℓ} → List (Bool × A) → A → A
first_row [] last = last
first_row (row ∷ rows) last = elim row.0 [ true ↦ row.1 | false ↦ first_row rows last ]

-- 1, numbers lent not a multiple of three: how many.
unfoldable pub triples_row {ℓ} : {A : Type ℓ} → List A → Row
triples_row l = (not (eqb (length l % 3) 0), (1, length l))

-- 3, a store's grade not 1 to 8: the grade.
unfoldable pub grade_row : ℕ → Row
grade_row g = (ltb g 1 || ltb 8 g, (3, g))

-- Document 02, request 13. 3, a grade to draw at not 2 to 8: the grade.
unfoldable pub draw_grade_row : ℕ → Row
draw_grade_row g = (ltb g 2 || ltb 8 g, (3, g))

-- 2, above 4,096 vertices: how many.
unfoldable pub count_row : ℕ → Row
count_row n = (ltb 4096 n, (2, n))

-- 4, a vertex outside the limits: the first such index.
unfoldable pub outside_row : List Vertex → Row
outside_row vs = (ltb (first_outside vs) (length vs), (4, first_outside vs))

-- 9, index not below n: the index.
unfoldable pub index_row : ℕ → ℕ → Row
index_row n k = (leb n k, (9, k))

-- 4, new vertex outside the limits: the index.
unfoldable pub new_row : Vertex → ℕ → Row
new_row v k = (not (allowed_of v), (4, k))

-- Document 02, request 9. 18, a path of one vertex or more that has no edges: its vertices.
unfoldable pub empty_row : ℕ → ℕ → Row
empty_row n m = (ltb 0 n && eqb m 0, (18, n))

-- 5, result longer than the room lent: edges, vertices or bytes needed. Room is compared with the result the rules give.
unfoldable pub room_row : ℕ → ℕ → ℕ → Row
room_row needed room number = (ltb room needed, (5, number))

-- draw, keep: the rows of a path
unfoldable pub path_rows : List ℤ → ℕ → List Row
path_rows l g = triples_row l ∷ draw_grade_row g ∷ count_row (length (path_of l)) ∷ outside_row (path_of l) ∷ []

-- ---- lent memory

-- A refusal changes no lent memory. After 0 the result stands first, and memory past it is unchanged.
unfoldable pub written {ℓ} : {A : Type ℓ} → Reply → List A → List A → List A
written r made room = elim (eqb r.0 0) [ true ↦ made ++ drop (length made) room | false ↦ room ]
