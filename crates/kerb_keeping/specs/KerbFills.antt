-- What the functions that fill in a kerb's outline promise: its counts and its bodies are two runs of words in one room.
use Rattle.std.specs.Prelude.{◌≡◌, Bool, List, ℕ, ◌+◌, ◌<◌, length}
use Rattle.runs.specs.Runs.{spread, Runs, put}
use Rattle.plane.specs.declared.Vector.{Vector}
use Rattle.contacts.specs.declared.Vertex.{Vertex}
use Rattle.kerb.specs.Tours.{piece_of, tour_after, left_in, Touring}
use Rattle.kerb.specs.declared.Style.{Style}
use Rattle.kerb_paths.specs.Points.{first_of, way_of}
use Rattle.words.specs.Words.{four_bytes}
use Rattle.outline.specs.Outlines.{body_words}
use Rattle.keeping.specs.Fills.{Both}
use Rattle.kerb_outline.specs.Remaining.{count_due, count_left, piece_count, piece_ends}
use Rattle.kerb_keeping.specs.declared.filling.KerbFilling.{KerbFilling}
use Rattle.kerb_keeping.specs.declared.filling.PutCount.{PutCount}

-- a count of k edges, if it is due
pub record CountFills (l₀ : List ℕ) (at : ℕ) (ends : Bool) (k : ℕ) (l₁ : List ℕ) (d : PutCount) : Type 0 where
  pub table : Runs put four_bytes l₀ at (count_due ends k) l₁ d.table
  pub count : d.count ≡ count_left ends k

-- a piece: its count, if that is due, and its edges
pub record PieceFills (t : Vector) (y : Style) (vs : List Vertex) (l₀ : List ℕ) (f : KerbFilling) (l₁ : List ℕ) (g : KerbFilling) : Type 0 where
  pub tour : g.tour ≡ tour_after (first_of vs) (way_of y vs) f.tour
  pub touring : Touring y (first_of vs) (way_of y vs) g.tour
  pub fewer : left_in g.tour.phase (length (way_of y vs)) g.tour.next < left_in f.tour.phase (length (way_of y vs)) f.tour.next
  pub table : g.table ≡ f.table + length (spread four_bytes (count_due (piece_ends y vs f.tour) (piece_count t y vs f.count f.tour)))
  pub count : g.count ≡ count_left (piece_ends y vs f.tour) (piece_count t y vs f.count f.tour)
  pub both : Both l₀ f.table (count_due (piece_ends y vs f.tour) (piece_count t y vs f.count f.tour)) f.bodies (body_words (piece_of t y (way_of y vs) f.tour)) l₁ g.bodies
