-- What stands in a store's table as numbers of 32 bits, and as numbers that are lent: three a vertex, of a kerb two.
use Rattle.std.specs.Prelude.{List, [], ◌∷◌, ℕ, zero, suc, ◌+◌, ◌*◌, ℤ, get_or, drop}
use Rattle.runs.specs.Runs.{Runs, put}
use Rattle.kerb.specs.declared.Style.{Style}
use Rattle.paths.specs.Paths.{vertex_numbers}
use Rattle.contacts.specs.declared.Vertex.{Vertex}
use Rattle.outline.specs.Layout.{header_words, entry_words, entry_at}
use Rattle.outline.specs.Stores.{form_in, count_in}
use Rattle.outline.specs.declared.Form.{Form}
use Rattle.outline.specs.declared.Form.TheVariants.{Stroke, Kerb}
use Rattle.words.specs.Words.{number_of, words_in, word_at}

-- a point of a kerb
unfoldable pub point_numbers : Vertex → List ℤ
point_numbers v = v.x ∷ v.y ∷ []

-- a vertex as numbers that are lent, and how many those are
abbrev pub lent_numbers : Form → Vertex → List ℤ
lent_numbers (Stroke e) = vertex_numbers
lent_numbers (Kerb y) = point_numbers

abbrev pub lent_width : Form → ℕ
lent_width (Stroke e) = 3
lent_width (Kerb y) = 2

-- The vertices of a table as numbers of 32 bits, the radius too in two's complement: a radius word of 2^31 or more then lies below 0, and is
-- outside the limits as it is where it is unsigned. A word that is missing is 0.
unfoldable pub shown_radius : Form → List ℕ → ℤ
shown_radius (Stroke e) ws = number_of (get_or ws 2 0)
shown_radius (Kerb y) ws = y.radius

unfoldable pub shown_in : Form → ℕ → List ℕ → List Vertex
shown_in f zero ws = []
shown_in f (suc n) ws = record { x = number_of (get_or ws 0 0); y = number_of (get_or ws 1 0); radius = shown_radius f ws } ∷ shown_in f n (drop (entry_words f) ws)

unfoldable pub shown_path : List ℕ → List Vertex
shown_path s = shown_in (form_in s) (count_in s) (drop (header_words (form_in s)) (words_in s))

-- the k-th of them
unfoldable pub shown_at : Form → List ℕ → ℕ → Vertex
shown_at f s k = record { x = number_of (word_at s (entry_at f k)); y = number_of (word_at s (entry_at f k + 1)); radius = shown_radius f (drop (entry_at f k) (words_in s)) }

-- a kerb's k-th point, and n of them, as numbers: its style has no part in them
pub record PointShows (s : List ℕ) (k : ℕ) (l₀ l₁ : List ℤ) : Type 0 where
  pub each : (y : Style) → Runs put point_numbers l₀ (2 * k) (shown_at (Kerb y) s k ∷ []) l₁ (2 * k + 2)

pub record PointsShow (s : List ℕ) (n : ℕ) (l₀ l₁ : List ℤ) : Type 0 where
  pub each : (y : Style) → Runs put point_numbers l₀ 0 (shown_in (Kerb y) n (drop 8 (words_in s))) l₁ (2 * n)
