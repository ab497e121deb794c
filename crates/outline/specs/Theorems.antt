-- Theorems over the definitions: what is kept is sound and says its own path, and a path has one outline.
use Rattle.std.specs.Prelude.{◌≡◌, true, false, List, [], ◌∷◌, ◌++◌, ℕ, ◌^◌, ◌≤◌, ◌<◌, ℤ, length, get_or, replicate}
use Rattle.paths.specs.Paths.{Within}
use Rattle.contacts.specs.declared.Vertex.{Vertex}
use Rattle.turning.specs.Bounds.{Radius}
use Rattle.outline.specs.Layout.{edition_word, kind_word, length_of}
use Rattle.outline.specs.declared.Edition.{Edition}
use Rattle.outline.specs.declared.Edition.TheVariants.{First, Second}
use Rattle.outline.specs.declared.Form.{Form}
use Rattle.outline.specs.declared.Form.TheVariants.{Stroke, Kerb}
use Rattle.words.specs.Words.{bytes_of}
use Rattle.outline.specs.Outlines.{body_words, edges_for, outline_bytes}
use Rattle.outline.specs.Stores.{edition_in, kind_in, form_in, grade_in, count_in, length_in, path_in, posts_in, due_in, bodies_in, sound_of, differing_in, body_bytes_in}

-- every vertex has the radius r
abbrev pub AllRadius : ℤ → List Vertex → Type 0
AllRadius r [] = Unit {0}
AllRadius r (v ∷ vs) = (v.radius ≡ r) × AllRadius r vs

-- each fits a word
abbrev pub AllWords : List ℕ → Type 0
AllWords [] = Unit {0}
AllWords (w ∷ ws) = (w < 2 ^ 32) × AllWords ws

-- the posts of n vertices that have no point number
unfoldable pub no_posts : ℕ → List ℕ
no_posts n = replicate n 0

-- a form within the limits, and posts and a path that suit it: each vertex has a post, in edition 1 it is 0; of a kerb there are no posts, the radius is
-- within the limits, and every vertex has it
abbrev pub FormWithin : Form → Type 0
FormWithin (Stroke e) = Unit {0}
FormWithin (Kerb y) = Radius y.radius

abbrev pub Suits : Form → List ℕ → List Vertex → Type 0
Suits (Stroke First) ps vs = ps ≡ no_posts (length vs)
Suits (Stroke Second) ps vs = (length ps ≡ length vs) × AllWords ps
Suits (Kerb y) ps vs = FormWithin (Kerb y) × AllRadius y.radius vs × (ps ≡ [])

-- a form, a grade, posts and a path within the limits
abbrev pub Formed : Form → ℕ → List ℕ → List Vertex → Type 0
Formed f g ps vs = Within g vs × Suits f ps vs

-- An outline has 24 + 16n + 16m bytes, in edition 2 24 + 20n + 16m, of a kerb 44 + 8n + 16m.
abbrev pub OutlineLength : Type 0
OutlineLength = (f : Form) (g : ℕ) (ps : List ℕ) (vs : List Vertex) → length (outline_bytes f g ps vs) ≡ length_of f (length vs) (length (edges_for f g vs))

-- An outline, with any bytes after it, is sound and says its own length, form, grade, posts and path.
abbrev pub KeptIsSound : Type 0
KeptIsSound = (f : Form) (g : ℕ) (ps : List ℕ) (vs : List Vertex) (rest : List ℕ) → Formed f g ps vs
    → (form_in (outline_bytes f g ps vs ++ rest) ≡ f)
    × (grade_in (outline_bytes f g ps vs ++ rest) ≡ g)
    × (posts_in (outline_bytes f g ps vs ++ rest) ≡ ps)
    × (path_in (outline_bytes f g ps vs ++ rest) ≡ vs)
    × (length_in (outline_bytes f g ps vs ++ rest) ≡ length (outline_bytes f g ps vs))
    × (sound_of (outline_bytes f g ps vs ++ rest) ≡ true)

-- Two forms, grades, posts and paths with the same outline are the same.
abbrev pub OneOutline : Type 0
OneOutline = (f e : Form) (g h : ℕ) (ps qs : List ℕ) (vs us : List Vertex) → Formed f g ps vs → Formed e h qs us → outline_bytes f g ps vs ≡ outline_bytes e h qs us
    → (f ≡ e) × (g ≡ h) × (ps ≡ qs) × (vs ≡ us)

-- a store of bytes that passes every test before that of soundness
abbrev pub Bytes : List ℕ → Type 0
Bytes [] = Unit {0}
Bytes (b ∷ l) = (b < 256) × Bytes l

pub record Headed (s : List ℕ) : Type 0 where
  pub bytes : Bytes s
  pub edition : edition_in s ≡ edition_word (form_in s)
  pub kind : kind_in s ≡ kind_word (form_in s)
  pub count : count_in s ≤ 4096
  pub long : length_in s ≤ length s

-- Where such a store is not sound, the byte named beside reply 8 lies inside the store's outline and inside the one that is due; where their
-- lengths differ it is one of the bytes 16 to 19, which count the edges.
abbrev pub DifferingInside : Type 0
DifferingInside = (s : List ℕ) → Headed s → sound_of s ≡ false
    → (differing_in s < length_in s)
    × (differing_in s < length (due_in s))
    × ((length_in s ≡ length (due_in s) → ⊥) → (16 ≤ differing_in s) × (differing_in s < 20))

-- In a sound store of kind 0 the bytes that its own counts mark off as body i are those of body i of its path; the closing body is body n.
abbrev pub BodyBytes : Type 0
BodyBytes = (s : List ℕ) (i : ℕ) (e : Edition) → form_in s ≡ Stroke e → Within (grade_in s) (path_in s) → sound_of s ≡ true → i ≤ length (path_in s) → body_bytes_in s i ≡ bytes_of (body_words (get_or (bodies_in s) i []))
