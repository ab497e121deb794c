-- For speed alone, no rule of document 01: where an arc's last inner direction is known but for how far off it is, what that tells of the point in it.
use Rattle.std.specs.Prelude.{◌≡◌, Bool, true, false, ℕ, ◌^◌, ◌≤◌, ℤ, nat_abs, ◌+ℤ◌, ◌-ℤ◌, ◌≤ℤ◌}
use Rattle.whole.specs.Sizes.{Size}
use Rattle.number.specs.MulDiv.{mul_div_of}
use Rattle.plane.specs.Vectors.{same_number, same_point}
use Rattle.plane.specs.Directions.{UnitLong}
use Rattle.plane.specs.OffBy.{OffBy}
use Rattle.plane.specs.declared.Vector.{Vector}
use Rattle.leaps.specs.Counts.{place_of}
use Rattle.turning.specs.declared.Turning.{Turning}

-- l can be a direction's component, and none that lies at most off from a is below it
pub record Lowest (a : ℤ) (off : ℕ) (l : ℤ) : Type 0 where
  pub size : Size (2 ^ 30) l
  pub below : (z : ℤ) → Size (2 ^ 30) z → nat_abs (z -ℤ a) ≤ off → l ≤ℤ z

-- the same of h, and none is above it
pub record Highest (a : ℤ) (off : ℕ) (h : ℤ) : Type 0 where
  pub size : Size (2 ^ 30) h
  pub above : (z : ℤ) → Size (2 ^ 30) z → nat_abs (z -ℤ a) ≤ off → z ≤ℤ h

-- where t holds, no component that lies at most off from a gives the coordinate `to` at the radius r from c
pub record Passes (c r a : ℤ) (off : ℕ) (to : ℤ) (t : Bool) : Type 0 where
  pub passes : t ≡ true → (z : ℤ) → Size (2 ^ 30) z → nat_abs (z -ℤ a) ≤ off → same_number (c +ℤ mul_div_of z r (2 ^ 30)) to ≡ false

-- where t holds, every such component gives it
pub record Meets (c r a : ℤ) (off : ℕ) (to : ℤ) (t : Bool) : Type 0 where
  pub meets : t ≡ true → (z : ℤ) → Size (2 ^ 30) z → nat_abs (z -ℤ a) ≤ off → same_number (c +ℤ mul_div_of z r (2 ^ 30)) to ≡ true

-- where t holds, the point in no direction that lies at most off from d is the arc's end
pub record Misses (r : Turning) (d : Vector) (off : ℕ) (t : Bool) : Type 0 where
  pub misses : t ≡ true → (v : Vector) → UnitLong v → OffBy off v d → same_point (place_of r v) r.to ≡ false

-- where t holds, the point in every such direction is
pub record Hits (r : Turning) (d : Vector) (off : ℕ) (t : Bool) : Type 0 where
  pub hits : t ≡ true → (v : Vector) → UnitLong v → OffBy off v d → same_point (place_of r v) r.to ≡ true
