-- What a tour has yet to give of a kerb's outline: for the functions that fill one in or compare it.
use Rattle.std.specs.Prelude.{Bool, true, false, List, [], ◌∷◌, ℕ, ◌+◌, ◌^◌, ◌<◌, length}
use Rattle.runs.specs.Runs.{spread}
use Rattle.plane.specs.declared.Vector.{Vector}
use Rattle.turning.specs.declared.Edge.{Edge}
use Rattle.contacts.specs.declared.Vertex.{Vertex}
use Rattle.kerb.specs.Tours.{piece_of, rest_bodies, rest_of, ends_of}
use Rattle.kerb.specs.declared.Style.{Style}
use Rattle.kerb.specs.declared.Tour.{Tour}
use Rattle.kerb_paths.specs.Points.{first_of, way_of}
use Rattle.words.specs.Words.{four_bytes}
use Rattle.outline.specs.Outlines.{counts_of, body_words}

-- Own numbers that hold a piece's edges on their way: a piece has 1,539 at most, of four numbers each.
abbrev pub piece_numbers : ℕ
piece_numbers = 6156

-- the counts of bodies, of the first of which so many edges are counted already
unfoldable pub counts_from : ℕ → List (List Edge) → List ℕ
counts_from k [] = []
counts_from k (b ∷ bs) = (k + length b) ∷ counts_of bs

-- a piece that is its body's last makes the count due; else the count goes on
unfoldable pub count_due : Bool → ℕ → List ℕ
count_due true k = k ∷ []
count_due false k = []

unfoldable pub count_left : Bool → ℕ → ℕ
count_left true k = 0
count_left false k = k

-- the words that a tour of the points vs has yet to give: counts, of which the first begins at k, and bodies
unfoldable pub counts_ahead : Vector → Style → List Vertex → ℕ → Tour → List ℕ
counts_ahead t y vs k w = counts_from k (rest_bodies t y (first_of vs) (way_of y vs) w)

unfoldable pub words_ahead : Vector → Style → List Vertex → Tour → List ℕ
words_ahead t y vs w = body_words (rest_of t y (first_of vs) (way_of y vs) w)

-- what the next piece counts to, and whether that is due
unfoldable pub piece_count : Vector → Style → List Vertex → ℕ → Tour → ℕ
piece_count t y vs k w = k + length (piece_of t y (way_of y vs) w)

unfoldable pub piece_ends : Style → List Vertex → Tour → Bool
piece_ends y vs w = ends_of (way_of y vs) w

-- no position or count of it wraps: the counts go on at i, the bodies at j
pub record TourRoom (t : Vector) (y : Style) (vs : List Vertex) (w : Tour) (k i j : ℕ) : Type 0 where
  pub entry : i + length (spread four_bytes (counts_ahead t y vs k w)) + 4 < 2 ^ 64
  pub at : j + length (spread four_bytes (words_ahead t y vs w)) < 2 ^ 64
  pub count : k + length (rest_of t y (first_of vs) (way_of y vs) w) < 2 ^ 32
