-- Document 02, request 12, for whoever fills a boundary: what draw wrote, and what a sound outline holds, closes when it is read as edges.
use Rattle.std.specs.Prelude.{◌≡◌, Bool, true, false, List, [], ◌∷◌, ℕ, ◌-◌, ◌*◌, ℤ, length, take, drop}
use Rattle.turning.specs.declared.Edge.{Edge}
use Rattle.paths.specs.Paths.{path_of, Within}
use Rattle.words.specs.Words.{number_of, words_in, word_at}
use Rattle.outline.specs.Layout.{edge_bytes}
use Rattle.contacts.specs.declared.Vertex.{Vertex}
use Rattle.outline.specs.Theorems.{Suits, Formed}
use Rattle.outline.specs.declared.Edition.TheVariants.{Second}
use Rattle.outline.specs.declared.Form.{Form}
use Rattle.outline.specs.declared.Form.TheVariants.{Stroke, Kerb}
use Rattle.outline.specs.Stores.{form_in, grade_in, length_in, path_in, posts_in, sound_of}
use Rattle.drawing.specs.Drawing.{draw_reply, draw_out}
use Rattle.kerb_drawing.specs.KerbDrawing.{draw_kerb_reply, draw_kerb_out}
use Rattle.keeping.specs.Keeping.{keep_reply, keep_out}
use Rattle.closing.specs.Closing.{Balanced, stray_of}

-- Four numbers an edge, start then end; what is left over is none.
unfoldable pub edges_from : List ℤ → List Edge
edges_from [] = []
edges_from (a ∷ []) = []
edges_from (a ∷ b ∷ []) = []
edges_from (a ∷ b ∷ c ∷ []) = []
edges_from (a ∷ b ∷ c ∷ d ∷ l) = record { a = record { x = a; y = b }; b = record { x = c; y = d } } ∷ edges_from l

-- After the reply 0 with m edges the first 4·m numbers are m edges that close, unless a join's arc has one end at the centre and one elsewhere.
abbrev pub DrawnCloses : Type 0
DrawnCloses = (path : List ℤ) (g m : ℕ) (out : List ℤ) → draw_reply path g (length out) ≡ (0, m) → stray_of (path_of path) ≡ false
    → (length (edges_from (take (4 * m) (draw_out path g out))) ≡ m)
    × Balanced (edges_from (take (4 * m) (draw_out path g out)))

-- The same of a kerb, without exception.
abbrev pub KerbDrawnCloses : Type 0
KerbDrawnCloses = (l : List ℤ) (g r j c m : ℕ) (out : List ℤ) → draw_kerb_reply l g r j c (length out) ≡ (0, m)
    → (length (edges_from (take (4 * m) (draw_kerb_out l g r j c out))) ≡ m)
    × Balanced (edges_from (take (4 * m) (draw_kerb_out l g r j c out)))

-- Words in two's complement, as numbers.
unfoldable pub numbers_of : List ℕ → List ℤ
numbers_of [] = []
numbers_of (w ∷ ws) = number_of w ∷ numbers_of ws

-- The edges that stand in a store: its header counts them, and they are the last bytes of the outline.
unfoldable pub stored_edges : List ℕ → List Edge
stored_edges store =
    let n : ℕ = edge_bytes * word_at store 4 in
    edges_from (numbers_of (words_in (take n (drop (length_in store - n) store))))

-- The exception is a stroke's alone.
unfoldable pub stray_in : Form → List Vertex → Bool
stray_in (Stroke e) vs = stray_of vs
stray_in (Kerb y) vs = false

-- In a sound store of either kind they are as many as its header says and close, with the same exception; and so it is in what keep wrote.
abbrev pub StoredCloses : List ℕ → Type 0
StoredCloses s = (length (stored_edges s) ≡ word_at s 4) × Balanced (stored_edges s)

abbrev pub SoundCloses : Type 0
SoundCloses = (s : List ℕ) → Formed (form_in s) (grade_in s) (posts_in s) (path_in s) → sound_of s ≡ true → stray_in (form_in s) (path_in s) ≡ false → StoredCloses s

abbrev pub KeptCloses : Type 0
KeptCloses = (path : List ℤ) (ps : List ℕ) (g : ℕ) (out : List ℕ) → Suits (Stroke Second) ps (path_of path) → (keep_reply path ps g (length out)).0 ≡ 0 → stray_of (path_of path) ≡ false
    → StoredCloses (keep_out path ps g out)
