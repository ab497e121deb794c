-- How far two vectors lie apart. Document 01 says nothing of it: it is how far off a leap over many of an arc's rotations may be.
use Rattle.std.specs.Prelude.{ℕ, ◌*◌, ◌≤◌, ◌-ℤ◌}
use Rattle.plane.specs.Vectors.{square_of}
use Rattle.plane.specs.declared.Vector.{Vector}

-- u less v
unfoldable pub less_of : Vector → Vector → Vector
less_of u v = record { x = u.x -ℤ v.x; y = u.y -ℤ v.y }

-- u and v lie at most a apart
pub record OffBy (a : ℕ) (u v : Vector) : Type 0 where
  pub within : square_of (less_of u v) ≤ a * a
