-- What the limits leave of arcs: how far out their points lie, and how many edges they have.
use Rattle.std.specs.Prelude.{List, [], ◌∷◌, ℕ, ◌+◌, ◌*◌, ◌^◌, ◌≤◌, ◌<◌, ℤ, pos, nat_abs, length, ◌≤ℤ◌}
use Rattle.whole.specs.Sizes.{Size}
use Rattle.plane.specs.Vectors.{Near, from_to, square_of}
use Rattle.plane.specs.Directions.{UnitLong}
use Rattle.plane.specs.declared.Point.{Point}
use Rattle.turning.specs.declared.Edge.{Edge}
use Rattle.turning.specs.declared.Turning.{Turning}

-- at most n edges
pub record Most (n : ℕ) (es : List Edge) : Type 0 where
  pub most : length es ≤ n

-- every edge ends within 2^29 of the origin, in each coordinate
pub record Reach (e : Edge) : Type 0 where
  pub a : Near e.a
  pub b : Near e.b

unfoldable pub AllReach : List Edge → Type 0
AllReach [] = Unit {0}
AllReach (e ∷ es) = Reach e × AllReach es

-- a centre within the limits of a vertex
pub record Centre (c : Point) : Type 0 where
  pub x : Size (2 ^ 28) c.x
  pub y : Size (2 ^ 28) c.y

-- a radius within the limits
pub record Radius (r : ℤ) : Type 0 where
  pub low : pos 0 ≤ℤ r
  pub high : nat_abs r ≤ 2 ^ 28

-- a point no farther from the centre than a radius within the limits, rounded
pub record About (c p : Point) : Type 0 where
  pub within : square_of (from_to c p) < (2 ^ 28 + 1) * (2 ^ 28 + 1)

-- what an arc keeps while it turns, within the limits
pub record Turns (r : Turning) : Type 0 where
  pub step : UnitLong r.step
  pub centre : Centre r.centre
  pub radius : Radius r.radius
  pub to : Near r.to
  pub toward : UnitLong r.toward
