-- For speed alone, no rule of document 01: an arc whose rotations are counted and whose edges all have length.
use Rattle.std.specs.Prelude.{◌≡◌, List, [], ◌∷◌, ℕ, zero, suc, ◌-◌, ◌≤◌, ◌<◌, ℤ}
use Rattle.plane.specs.Directions.{rotated_of, scaled_of}
use Rattle.plane.specs.declared.Point.{Point}
use Rattle.plane.specs.declared.Vector.{Vector}
use Rattle.turning.specs.Arcs.{turns_of}
use Rattle.leaps.specs.Counts.{place_of}
use Rattle.turning.specs.declared.Edge.{Edge}
use Rattle.turning.specs.declared.Turning.{Turning}

-- by steps of t about c: n rotations from the direction d, each to the point at the radius r, from the point p on; and then to q
unfoldable pub bow_edges : ℕ → Vector → Point → ℤ → Point → Vector → Point → List Edge
bow_edges zero t c r q d p = record { a = p; b = q } ∷ []
bow_edges (suc n) t c r q d p =
    let next = rotated_of t d in
    let x = scaled_of c r next in
    record { a = p; b = x } ∷ bow_edges n t c r q next x

-- n rotations of an arc, and its last edge
abbrev pub bow_of : ℕ → Turning → Vector → Point → List Edge
bow_of n r d p = bow_edges n r.step r.centre r.radius r.to d p

-- n counts the rotations of an arc whose edges all have length; 0 tells nothing
pub record Bends (r : Turning) (d : Vector) (p : Point) (n : ℕ) : Type 0 where
  pub most : n ≤ 1535
  pub edges : 0 < n → turns_of 1536 r d p ≡ bow_of n r d p

-- so it does where d is the direction after the first of them
pub record BendsOn (r : Turning) (d : Vector) (n : ℕ) : Type 0 where
  pub most : n ≤ 1535
  pub edges : 0 < n → turns_of 1535 r d (place_of r d) ≡ bow_of (n - 1) r d (place_of r d)
