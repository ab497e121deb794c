-- Document 01, "The kept outline", and document 02, requests 3 and 11: what stands in a store, and whether it is sound.
use Rattle.std.specs.Prelude.{Bool, true, false, List, [], ◌∷◌, ℕ, zero, suc, ◌+◌, ◌*◌, eqb, ltb, ℤ, pos, get_or, take, drop}
use Rattle.turning.specs.declared.Edge.{Edge}
use Rattle.paths.specs.Paths.{bodies_of}
use Rattle.contacts.specs.declared.Vertex.{Vertex}
use Rattle.kerb.specs.Styles.{style_of}
use Rattle.outline.specs.Layout.{second_edition, kerb_kind, count_place, header_words, entry_words, entry_at, edge_bytes, front_bytes, length_of}
use Rattle.outline.specs.declared.Edition.{Edition}
use Rattle.outline.specs.declared.Edition.TheVariants.{First, Second}
use Rattle.outline.specs.declared.Form.{Form}
use Rattle.outline.specs.declared.Form.TheVariants.{Stroke, Kerb}
use Rattle.words.specs.Words.{number_of, words_in, word_at}
use Rattle.outline.specs.Outlines.{outline_bytes}

-- Header: edition, kind, grade, vertices n, edges m.
unfoldable pub edition_in : List ℕ → ℕ
edition_in store = word_at store 0

unfoldable pub kind_in : List ℕ → ℕ
kind_in store = word_at store 1

unfoldable pub grade_in : List ℕ → ℕ
grade_in store = word_at store 2

unfoldable pub count_in : List ℕ → ℕ
count_in store = word_at store 3

-- Edition 1 or 2.
unfoldable pub edition_of : ℕ → Edition
edition_of w = elim (eqb w second_edition) [ true ↦ Second | false ↦ First ]

-- Kind 1 has radius, join and closed after them.
unfoldable pub form_in : List ℕ → Form
form_in store = elim (eqb (kind_in store) kerb_kind) [ true ↦ Kerb (style_of (word_at store 5) (word_at store 6) (word_at store 7)) | false ↦ Stroke (edition_of (edition_in store)) ]

-- Length 24 + 16n + 16m bytes for kind 0, in edition 2 24 + 20n + 16m, and 44 + 8n + 16m for kind 1.
unfoldable pub length_in : List ℕ → ℕ
length_in store = length_of (form_in store) (count_in store) (word_at store 4)

-- Per vertex: x, y, radius and a count; of kind 1 x and y, and every vertex has the style's radius. A word that is missing is 0.
unfoldable pub radius_in : Form → List ℕ → ℤ
radius_in (Stroke e) ws = pos (get_or ws 2 0)
radius_in (Kerb y) ws = y.radius

-- The n vertices of a table.
unfoldable pub entries_in : Form → ℕ → List ℕ → List Vertex
entries_in f zero ws = []
entries_in f (suc n) ws = record { x = number_of (get_or ws 0 0); y = number_of (get_or ws 1 0); radius = radius_in f ws } ∷ entries_in f n (drop (entry_words f) ws)

unfoldable pub path_in : List ℕ → List Vertex
path_in store = entries_in (form_in store) (count_in store) (drop (header_words (form_in store)) (words_in store))

-- The post in an entry: edition 1's are 0.
unfoldable pub post_in : Edition → List ℕ → ℕ
post_in First ws = 0
post_in Second ws = get_or ws 3 0

-- The posts of a table, one a vertex; a kerb has none.
unfoldable pub posts_from : Form → ℕ → List ℕ → List ℕ
posts_from (Kerb y) n ws = []
posts_from (Stroke e) zero ws = []
posts_from (Stroke e) (suc n) ws = post_in e ws ∷ posts_from (Stroke e) n (drop (entry_words (Stroke e)) ws)

abbrev pub posts_of : Form → ℕ → List ℕ → List ℕ
posts_of f n store = posts_from f n (drop (header_words f) (words_in store))

unfoldable pub posts_in : List ℕ → List ℕ
posts_in store = posts_of (form_in store) (count_in store) store

-- the k-th of them
unfoldable pub post_at : Edition → List ℕ → ℕ → ℕ
post_at e store k = post_in e (drop (entry_at (Stroke e) k) (words_in store))

-- What its own vertices, posts and grade give.
unfoldable pub due_in : List ℕ → List ℕ
due_in store = outline_bytes (form_in store) (grade_in store) (posts_in store) (path_in store)

-- the bodies of the path that a store of kind 0 keeps
unfoldable pub bodies_in : List ℕ → List (List Edge)
bodies_in store = bodies_of (grade_in store) (path_in store)

-- Sound means: equal to what its own vertices, posts and grade give. Lent bytes may go on after it.
unfoldable pub same_bytes : List ℕ → List ℕ → Bool
same_bytes [] [] = true
same_bytes [] (b ∷ m) = false
same_bytes (a ∷ l) [] = false
same_bytes (a ∷ l) (b ∷ m) = elim (eqb a b) [ true ↦ same_bytes l m | false ↦ false ]

unfoldable pub sound_of : List ℕ → Bool
sound_of store = same_bytes (take (length_in store) store) (due_in store)

-- the first place where two lists differ; the length of one where it begins the other
unfoldable pub first_differing : List ℕ → List ℕ → ℕ
first_differing [] m = 0
first_differing (a ∷ l) [] = 0
first_differing (a ∷ l) (b ∷ m) = elim (eqb a b) [ true ↦ suc (first_differing l m) | false ↦ 0 ]

-- the first byte of a store that differs from what is due
unfoldable pub differing_in : List ℕ → ℕ
differing_in store = first_differing (take (length_in store) store) (due_in store)

-- How many edges the table says that body i has: the last word of its vertex's entry, and past the entries the word of the closing body, which is body n.
unfoldable pub edges_in : List ℕ → ℕ → ℕ
edges_in store i =
    let e = edition_of (edition_in store) in
    elim (ltb i (count_in store)) [ true ↦ word_at store (entry_at (Stroke e) i + count_place e) | false ↦ word_at store (entry_at (Stroke e) (count_in store)) ]

-- and how many all the bodies before it have
unfoldable pub edges_before : List ℕ → ℕ → ℕ
edges_before store zero = 0
edges_before store (suc i) = edges_before store i + edges_in store i

-- The bytes of body i as the table marks them off.
unfoldable pub body_bytes_in : List ℕ → ℕ → List ℕ
body_bytes_in store i = take (edge_bytes * edges_in store i) (drop (front_bytes (Stroke (edition_of (edition_in store))) (count_in store) + edge_bytes * edges_before store i) store)
