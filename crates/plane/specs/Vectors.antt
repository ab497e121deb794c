-- Points, the vectors between them, and products of vectors.
use Rattle.std.specs.Prelude.{Bool, false, ◌&&◌, ℕ, ◌+◌, ◌*◌, ◌^◌, eqb, ℤ, pos, negsuc, nat_abs, ◌+ℤ◌, ◌-ℤ◌, ◌*ℤ◌}
use Rattle.whole.specs.Sizes.{Size}
use Rattle.plane.specs.declared.Point.{Point}
use Rattle.plane.specs.declared.Vector.{Vector}

-- whether two whole numbers, two points are equal
unfoldable pub same_number : ℤ → ℤ → Bool
same_number (pos m) (pos n) = eqb m n
same_number (pos m) (negsuc n) = false
same_number (negsuc m) (pos n) = false
same_number (negsuc m) (negsuc n) = eqb m n

unfoldable pub same_point : Point → Point → Bool
same_point p q = same_number p.x q.x && same_number p.y q.y

-- the vector from p to q
unfoldable pub from_to : Point → Point → Vector
from_to p q = record { x = q.x -ℤ p.x; y = q.y -ℤ p.y }

unfoldable pub cross_of : Vector → Vector → ℤ
cross_of u v = u.x *ℤ v.y -ℤ u.y *ℤ v.x

unfoldable pub dot_of : Vector → Vector → ℤ
dot_of u v = u.x *ℤ v.x +ℤ u.y *ℤ v.y

-- the length squared, x² + y²
unfoldable pub square_of : Vector → ℕ
square_of v = nat_abs v.x * nat_abs v.x + nat_abs v.y * nat_abs v.y

-- ---- how far the limits let them reach

-- a point as far out as an edge can end
pub record Near (p : Point) : Type 0 where
  pub x : Size (2 ^ 29) p.x
  pub y : Size (2 ^ 29) p.y

-- a vector between two such points, or a direction
pub record Short (v : Vector) : Type 0 where
  pub x : Size (2 ^ 30) v.x
  pub y : Size (2 ^ 30) v.y
