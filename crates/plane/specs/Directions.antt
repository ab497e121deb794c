-- Document 01, "Numbers underneath": directions, the steps of the grades, rotation and scaling.
use Rattle.std.specs.Prelude.{ℕ, ◌+◌, ◌-◌, ◌*◌, ◌/◌, ◌^◌, ◌≤◌, ◌<◌, ℤ, pos, nat_abs, ◌+ℤ◌, ◌-ℤ◌, ◌*ℤ◌}
use Rattle.std.specs.Int.Signed.{lt_z, quot_z}
use Rattle.number.specs.Root.{root_of}
use Rattle.number.specs.MulDiv.{with_sign, mul_div_of}
use Rattle.plane.specs.Vectors.{square_of}
use Rattle.plane.specs.declared.Point.{Point}
use Rattle.plane.specs.declared.Vector.{Vector}

-- The size of a direction's component, from that of the coordinate c and the vector's squared length s.
unfoldable pub part_of : ℕ → ℕ → ℕ
part_of c s = root_of (c * c * 2 ^ 60 / s)

-- Each component has the sign of its coordinate.
unfoldable pub component_of : ℤ → ℕ → ℤ
component_of c s = with_sign (lt_z c (pos 0)) (part_of (nat_abs c) s)

-- Its size is the largest n with n²·s ≤ c²·2^60.
abbrev pub ComponentIsLargest : Type 0
ComponentIsLargest = (c : ℤ) (s : ℕ) → 0 < s
    → (nat_abs (component_of c s) * nat_abs (component_of c s) * s ≤ nat_abs c * nat_abs c * 2 ^ 60)
    × ((n : ℕ) → n * n * s ≤ nat_abs c * nat_abs c * 2 ^ 60 → n ≤ nat_abs (component_of c s))

-- Direction of a non-zero (x, y).
unfoldable pub direction_of : Vector → Vector
direction_of v = record { x = component_of v.x (square_of v); y = component_of v.y (square_of v) }

-- Step of grade k: the direction of (4^k - 1, 2^(k+1)).
unfoldable pub step_of : ℕ → Vector
step_of k = direction_of (record { x = pos (4 ^ k - 1); y = pos (2 ^ (k + 1)) })

-- Rotating (x, y) by a step (c, s): (cx - sy, sx + cy), each divided by 2^30 towards zero.
unfoldable pub rotated_of : Vector → Vector → Vector
rotated_of t v = record {
  x = quot_z (t.x *ℤ v.x -ℤ t.y *ℤ v.y) (pos (2 ^ 30));
  y = quot_z (t.y *ℤ v.x +ℤ t.x *ℤ v.y) (pos (2 ^ 30));
}

-- Scaling a direction by a radius: `mul_div` by the radius over 2^30. Here about a centre.
unfoldable pub scaled_of : Point → ℤ → Vector → Point
scaled_of c r d = record { x = c.x +ℤ mul_div_of d.x r (2 ^ 30); y = c.y +ℤ mul_div_of d.y r (2 ^ 30) }

-- no longer than 2^30, as directions and steps are
pub record UnitLong (v : Vector) : Type 0 where
  pub length : square_of v ≤ 2 ^ 60
