-- For speed alone, no rule of document 01: where edges are only counted, what an edge adds, and how far a direction must move to move its point.
use Rattle.std.specs.Prelude.{Bool, true, false, ℕ, ◌*◌, ◌^◌, ◌≤◌, ◌<◌}
use Rattle.plane.specs.Directions.{scaled_of}
use Rattle.plane.specs.declared.Point.{Point}
use Rattle.plane.specs.declared.Vector.{Vector}
use Rattle.turning.specs.declared.Turning.{Turning}

-- the inner point in the direction d
abbrev pub place_of : Turning → Vector → Point
place_of r d = scaled_of r.centre r.radius d

-- the numbers of an edge, by whether its ends are one point
unfoldable pub edge_size : Bool → ℕ
edge_size true = 0
edge_size false = 4

-- a component that moves by l or more moves its point at the radius r by more than 1
pub record Far (r l : ℕ) : Type 0 where
  pub far : (n : ℕ) → l ≤ n → n ≤ 2 ^ 31 → 2 ^ 30 < n * r
