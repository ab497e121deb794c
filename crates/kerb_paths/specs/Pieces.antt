-- What the tour over a kerb's points does, piece by piece.
use Rattle.std.specs.Prelude.{◌≡◌, false, List, ℕ, ◌<◌, ℤ, length}
use Rattle.folds.specs.Pens.{Lays}
use Rattle.folds.specs.declared.Pen.{Pen}
use Rattle.contacts.specs.declared.Vertex.{Vertex}
use Rattle.kerb.specs.Tours.{tour_from, piece_of, tour_after, done_of, ends_of, left_in, Touring}
use Rattle.kerb.specs.declared.Style.{Style}
use Rattle.kerb.specs.declared.Tour.{Tour}
use Rattle.kerb_paths.specs.Points.{first_of, way_of}
use Rattle.kerb_paths.specs.declared.pieces.Pieced.{Pieced}

-- a tour from the first point, and what is kept of it
pub record Begun (y : Style) (vs : List Vertex) (w : Tour) : Type 0 where
  pub tour : w ≡ tour_from (first_of vs)
  pub touring : Touring y (first_of vs) (way_of y vs) w

-- a tour after a piece: the piece is laid, and fewer pieces are left
pub record Pieces (pen : Pen) (y : Style) (vs : List Vertex) (w : Tour) (l₀ : List ℤ) (at : ℕ) (l₁ : List ℤ) (r : Pieced) : Type 0 where
  pub tour : r.tour ≡ tour_after (first_of vs) (way_of y vs) w
  pub made : Lays pen.step pen.folds l₀ at (piece_of pen.step y (way_of y vs) w) l₁ r.at
  pub ends : r.ends ≡ ends_of (way_of y vs) w
  pub touring : Touring y (first_of vs) (way_of y vs) r.tour
  pub fewer : done_of w.phase ≡ false → left_in r.tour.phase (length (way_of y vs)) r.tour.next < left_in w.phase (length (way_of y vs)) w.next
