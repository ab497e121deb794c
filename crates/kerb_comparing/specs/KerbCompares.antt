-- What the functions that compare a store with the outline of a kerb promise: how far its counts agree, and how far its bodies do.
use Rattle.std.specs.Prelude.{◌≡◌, Bool, List, [], ◌∷◌, ℕ, ◌+◌, ◌<◌, length}
use Rattle.runs.specs.Runs.{spread, Runs, agree}
use Rattle.plane.specs.declared.Vector.{Vector}
use Rattle.contacts.specs.declared.Vertex.{Vertex}
use Rattle.kerb.specs.Tours.{piece_of, tour_after, left_in, Touring}
use Rattle.kerb.specs.declared.Style.{Style}
use Rattle.kerb_paths.specs.Points.{first_of, way_of}
use Rattle.words.specs.Words.{four_bytes}
use Rattle.outline.specs.Outlines.{body_words}
use Rattle.comparing.specs.declared.Compared.{Compared}
use Rattle.kerb_outline.specs.Remaining.{count_due, count_left, counts_ahead, words_ahead, piece_count, piece_ends}
use Rattle.kerb_comparing.specs.declared.KerbComparing.{KerbComparing}
use Rattle.kerb_comparing.specs.declared.Counted.{Counted}

-- a count of k edges, if it is due
pub record CountAgrees (s : List ℕ) (ok at : ℕ) (ends : Bool) (k : ℕ) (d : Counted) : Type 0 where
  pub table : Runs (agree s) four_bytes ok at (count_due ends k) d.table d.entry
  pub count : d.count ≡ count_left ends k

-- a piece: its count, if that is due, and its edges
pub record PieceAgrees (t : Vector) (y : Style) (vs : List Vertex) (s : List ℕ) (c d : KerbComparing) : Type 0 where
  pub tour : d.tour ≡ tour_after (first_of vs) (way_of y vs) c.tour
  pub touring : Touring y (first_of vs) (way_of y vs) d.tour
  pub fewer : left_in d.tour.phase (length (way_of y vs)) d.tour.next < left_in c.tour.phase (length (way_of y vs)) c.tour.next
  pub table : Runs (agree s) four_bytes c.table c.entry (count_due (piece_ends y vs c.tour) (piece_count t y vs c.count c.tour)) d.table d.entry
  pub count : d.count ≡ count_left (piece_ends y vs c.tour) (piece_count t y vs c.count c.tour)
  pub bodies : Runs (agree s) four_bytes c.bodies c.at (body_words (piece_of t y (way_of y vs) c.tour)) d.bodies d.at

-- every piece from c on
pub record TourAgrees (t : Vector) (y : Style) (vs : List Vertex) (s : List ℕ) (c : KerbComparing) (r : Compared) : Type 0 where
  pub table : Runs (agree s) four_bytes c.table c.entry (counts_ahead t y vs c.count c.tour) r.table (c.entry + length (spread four_bytes (counts_ahead t y vs c.count c.tour)))
  pub bodies : Runs (agree s) four_bytes c.bodies c.at (words_ahead t y vs c.tour) r.bodies r.end

-- the counts of a kerb without edges
pub record NoBodies (s : List ℕ) (ok entry base : ℕ) (r : Compared) : Type 0 where
  pub table : Runs (agree s) four_bytes ok entry (0 ∷ 0 ∷ 0 ∷ []) r.table (entry + 12)
  pub bodies : r.bodies ≡ base
  pub end : r.end ≡ base
