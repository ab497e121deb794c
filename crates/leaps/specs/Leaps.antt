-- For speed alone, no rule of document 01: an arc counted by leaps over many rotations at once. The direction is then known but for how far off it is.
use Rattle.std.specs.Prelude.{◌≡◌, Bool, true, false, ℕ, zero, suc, ◌+◌, ◌*◌, ◌^◌, ◌≤◌, ℤ, pos, neg_ℤ, nat_abs, ◌-ℤ◌, ◌≤ℤ◌}
use Rattle.plane.specs.Vectors.{same_point, square_of}
use Rattle.plane.specs.Directions.{rotated_of, UnitLong}
use Rattle.plane.specs.OffBy.{OffBy}
use Rattle.plane.specs.declared.Vector.{Vector}
use Rattle.turning.specs.Arcs.{stops_of}
use Rattle.leaps.specs.Counts.{place_of}
use Rattle.turning.specs.declared.Turning.{Turning}

-- the direction d after n rotations by the step t
unfoldable pub turned_of : ℕ → Vector → Vector → Vector
turned_of zero t d = d
turned_of (suc n) t d = turned_of n t (rotated_of t d)

-- towards e, an arc does not stop before any of the first n
unfoldable pub Goes : ℕ → Vector → Vector → Vector → Type 0
Goes zero t e d = Unit {0}
Goes (suc n) t e d = (stops_of d (rotated_of t d) e ≡ false) × Goes n t e (rotated_of t d)

-- how far a rotation by t takes a direction at most
unfoldable pub sway_of : Vector → ℕ
sway_of t = nat_abs (pos (2 ^ 30) -ℤ t.x) + nat_abs t.y + 2

-- a rotation by u is n rotations by t, but for a
pub record Leaps (t : Vector) (n a : ℕ) (u : Vector) : Type 0 where
  pub unit : UnitLong u
  pub near : (v : Vector) → UnitLong v → OffBy a (turned_of n t v) (rotated_of u v)

-- where d has come to after so many rotations, but for how far off that is, and the arc did not stop before them. At most 1,534: d is the direction after
-- the first rotation, which leaves 1,535, and the last edge needs one more test. At most 9 off a rotation: a leap of eight adds 66, a single one 3.
pub record Comes (t e d : Vector) (n a : ℕ) (v : Vector) : Type 0 where
  pub unit : UnitLong v
  pub near : OffBy a (turned_of n t d) v
  pub goes : Goes n t e d
  pub turns : n ≤ 1534
  pub off : a ≤ 9 * n

-- from where an arc has come to, wherever it began: on to where it comes then
pub record Leads (t e : Vector) (n a : ℕ) (v : Vector) (m b : ℕ) (w : Vector) : Type 0 where
  pub unit : UnitLong w
  pub turns : m ≤ 1534
  pub off : b ≤ 9 * m
  pub comes : (d : Vector) → UnitLong d → Comes t e d n a v → Comes t e d m b w

-- ---- tests, which tell something where they pass

-- z is n or more; it is -n or less
pub record Ahead (z : ℤ) (n : ℕ) (x : Bool) : Type 0 where
  pub ahead : x ≡ true → pos n ≤ℤ z

pub record Behind (z : ℤ) (n : ℕ) (x : Bool) : Type 0 where
  pub behind : x ≡ true → z ≤ℤ neg_ℤ (pos n)

-- no two directions that near to d stop an arc towards e
pub record Clears (d e : Vector) (reach : ℕ) (x : Bool) : Type 0 where
  pub clears : x ≡ true → (v n : Vector) → OffBy reach v d → OffBy reach n d → stops_of v n e ≡ false

-- an arc stops at every direction that near to d
pub record Ends (t e d : Vector) (off : ℕ) (x : Bool) : Type 0 where
  pub ends : x ≡ true → (v : Vector) → OffBy off v d → stops_of v (rotated_of t v) e ≡ true

-- every direction that near to d is seven eighths as long as a unit: a rotation moves one that long by seven eighths of the step's y or more, but for
-- rounding. No rotation lengthens a direction, so where the last is that long, all before it are
pub record Long (d : Vector) (off : ℕ) (x : Bool) : Type 0 where
  pub long : x ≡ true → (v : Vector) → OffBy off v d → 7 * 2 ^ 27 * (7 * 2 ^ 27) ≤ square_of v

-- steps are fine, and yet a rotation of a direction that long moves its point
pub record Moves (r : Turning) (x : Bool) : Type 0 where
  pub fine : x ≡ true → sway_of r.step ≤ 2 ^ 27
  pub moves : x ≡ true → (v : Vector) → UnitLong v → 7 * 2 ^ 27 * (7 * 2 ^ 27) ≤ square_of v → same_point (place_of r v) (place_of r (rotated_of r.step v)) ≡ false
