-- For speed alone, no rule of document 01: a rotation in two parts, and what a direction is found by.
use Rattle.std.specs.Prelude.{◌≡◌, Bool, true, ℕ, ◌+◌, ◌*◌, ◌^◌, ◌≤◌, ◌<◌, pos, ◌+ℤ◌, ◌-ℤ◌, ◌*ℤ◌}
use Rattle.std.specs.Int.Signed.{quot_z}
use Rattle.whole.specs.Sizes.{Size}
use Rattle.plane.specs.Vectors.{square_of}
use Rattle.plane.specs.declared.Vector.{Vector}
use Rattle.plane.specs.declared.direction.Length.{Length}
use Rattle.plane.specs.declared.rotation.Swing.{Swing}

-- ---- rotating in two parts

-- (cx - sy, sx + cy), and what is left of it once it is divided: so rotatedOf t v is headingOf (swingOf t v)
unfoldable pub swing_of : Vector → Vector → Swing
swing_of t v = record { x = t.x *ℤ v.x -ℤ t.y *ℤ v.y; y = t.y *ℤ v.x +ℤ t.x *ℤ v.y }

unfoldable pub heading_of : Swing → Vector
heading_of s = record { x = quot_z s.x (pos (2 ^ 30)); y = quot_z s.y (pos (2 ^ 30)) }

-- as far as the swing of a direction by a step reaches
pub record Swings (s : Swing) : Type 0 where
  pub x : Size (2 ^ 60) s.x
  pub y : Size (2 ^ 60) s.y

-- ---- what a direction is found by

-- whether n is surely the largest with n²·t ≤ c²·2^60; where it is not told, n may be or not
pub record Settles (n c t : ℕ) (x : Bool) : Type 0 where
  pub low : x ≡ true → n * n * t ≤ c * c * 2 ^ 60
  pub high : x ≡ true → c * c * 2 ^ 60 < (n + 1) * (n + 1) * t

-- the squared length of v, and a level at which that still fits 64 bits
pub record Measures (v : Vector) (l : Length) : Type 0 where
  pub square : l.square ≡ square_of v
  pub level : l.level ≤ 31
  pub fits : square_of v * 4 ^ l.level < 2 ^ 64
