-- Document 01, "The kept outline", and document 02, requests 3 and 11: the words of an outline, and its bytes.
use Rattle.std.specs.Prelude.{Bool, true, false, List, [], ◌∷◌, ◌++◌, ℕ, length, get_or, drop}
use Rattle.runs.specs.Runs.{spread}
use Rattle.turning.specs.Edges.{edge_numbers}
use Rattle.turning.specs.declared.Edge.{Edge}
use Rattle.kerb.specs.Kerbs.{kerb_bodies, kerb_edges}
use Rattle.kerb.specs.declared.Join.{Join}
use Rattle.kerb.specs.declared.Join.TheVariants.{Bevel, Round}
use Rattle.paths.specs.Paths.{bodies_of, edges_of}
use Rattle.contacts.specs.declared.Vertex.{Vertex}
use Rattle.outline.specs.Layout.{edition_word, kind_word}
use Rattle.outline.specs.declared.Edition.{Edition}
use Rattle.outline.specs.declared.Edition.TheVariants.{First, Second}
use Rattle.outline.specs.declared.Form.{Form}
use Rattle.outline.specs.declared.Form.TheVariants.{Stroke, Kerb}
use Rattle.words.specs.Words.{word_of, words_of, bytes_of}

-- Join: 0 bevel, 1 round. Closed: 0 or 1.
unfoldable pub join_word : Join → ℕ
join_word Bevel = 0
join_word Round = 1

unfoldable pub closed_word : Bool → ℕ
closed_word false = 0
closed_word true = 1

-- Kind 1's header gains three words after the edge count: radius, join, closed.
unfoldable pub style_words : Form → List ℕ
style_words (Stroke e) = []
style_words (Kerb y) = word_of y.radius ∷ join_word y.join ∷ closed_word y.closed ∷ []

-- Header: edition, kind, grade, vertices n, edges m.
unfoldable pub header_of : Form → ℕ → ℕ → ℕ → List ℕ
header_of f g n m = edition_word f ∷ kind_word f ∷ g ∷ n ∷ m ∷ style_words f

-- A post is a vertex's point number. Edition 2 has it after the radius; edition 1 has none.
unfoldable pub post_words : Edition → ℕ → List ℕ
post_words First post = []
post_words Second post = post ∷ []

-- Per vertex: x, y, radius, its post, number of edges emitted on reaching it.
unfoldable pub entry_of : Edition → Vertex → ℕ → ℕ → List ℕ
entry_of e v post count = word_of v.x ∷ word_of v.y ∷ word_of v.radius ∷ (post_words e post ++ (count ∷ []))

-- One word: number of closing edges. Posts go with the vertices in their order; one that is missing is 0.
unfoldable pub table_of : Edition → List ℕ → List Vertex → List (List Edge) → List ℕ
table_of e ps vs [] = []
table_of e ps [] (b ∷ bs) = length b ∷ []
table_of e ps (v ∷ vs) (b ∷ bs) = entry_of e v (get_or ps 0 0) (length b) ++ table_of e (drop 1 ps) vs bs

-- Kind 1's entries are x and y;
unfoldable pub point_words : Vertex → List ℕ
point_words v = word_of v.x ∷ word_of v.y ∷ []

-- three words follow with the counts of section, join and cap edges.
unfoldable pub counts_of : List (List Edge) → List ℕ
counts_of [] = []
counts_of (b ∷ bs) = length b ∷ counts_of bs

unfoldable pub kerb_table : List Vertex → List (List Edge) → List ℕ
kerb_table vs bs = spread point_words vs ++ counts_of bs

-- Bodies: m edges of four words, start then end.
unfoldable pub body_words : List Edge → List ℕ
body_words es = words_of (spread edge_numbers es)

-- An outline in three parts: its header, its table and the edges of its bodies.
pub record Parts : Type 0 where
  pub header : List ℕ
  pub table : List ℕ
  pub edges : List Edge

unfoldable pub parts_words : Parts → List ℕ
parts_words p = p.header ++ (p.table ++ body_words p.edges)

-- Those of a path and its posts, by what it is an outline of.
abbrev pub table_for : Form → ℕ → List ℕ → List Vertex → List ℕ
table_for (Stroke e) g ps vs = table_of e ps vs (bodies_of g vs)
table_for (Kerb y) g ps vs = kerb_table vs (kerb_bodies g y vs)

abbrev pub edges_for : Form → ℕ → List Vertex → List Edge
edges_for (Stroke e) g vs = edges_of g vs
edges_for (Kerb y) g vs = kerb_edges g y vs

abbrev pub parts_of : Form → ℕ → List ℕ → List Vertex → Parts
parts_of f g ps vs = record { header = header_of f g (length vs) (length (edges_for f g vs)); table = table_for f g ps vs; edges = edges_for f g vs }

unfoldable pub outline_words : Form → ℕ → List ℕ → List Vertex → List ℕ
outline_words f g ps vs = parts_words (parts_of f g ps vs)

unfoldable pub outline_bytes : Form → ℕ → List ℕ → List Vertex → List ℕ
outline_bytes f g ps vs = bytes_of (outline_words f g ps vs)
