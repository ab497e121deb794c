-- Document 01, "Arcs".
use Rattle.std.specs.Prelude.{Bool, true, false, ◌&&◌, ◌||◌, List, [], ◌++◌, ℕ, zero, suc, ℤ, pos, ◌+ℤ◌, ◌-ℤ◌}
use Rattle.std.specs.Int.Signed.{le_z, lt_z}
use Rattle.number.specs.Root.{root_of}
use Rattle.plane.specs.Vectors.{same_point, from_to, cross_of, dot_of, square_of}
use Rattle.plane.specs.Directions.{direction_of, rotated_of, scaled_of}
use Rattle.plane.specs.declared.Point.{Point}
use Rattle.plane.specs.declared.Vector.{Vector}
use Rattle.turning.specs.Edges.{edge_of}
use Rattle.turning.specs.declared.Edge.{Edge}
use Rattle.turning.specs.declared.Sweep.{Sweep}
use Rattle.turning.specs.declared.Sweep.TheVariants.{Minor, Major}
use Rattle.turning.specs.declared.Turning.{Turning}

-- By the cross product of the two rays: positive is Minor, negative Major; zero with a negative dot product is Minor; else the caller's choice.
unfoldable pub sweep_of : Vector → Vector → Sweep → Sweep
sweep_of p q choice = elim (lt_z (pos 0) (cross_of p q)) [
  | true ↦ Minor
  | false ↦ elim (lt_z (cross_of p q) (pos 0)) [ true ↦ Major | false ↦ elim (lt_z (dot_of p q) (pos 0)) [ true ↦ Minor | false ↦ choice ] ]
]

unfoldable pub is_major : Sweep → Bool
is_major Minor = false
is_major Major = true

-- A Minor arc between equal points has no edges; no arc with an end at the centre has any.
unfoldable pub empty_of : Sweep → Point → Point → Point → Bool
empty_of Minor c p q = same_point p q || same_point p c || same_point q c
empty_of Major c p q = same_point p c || same_point q c

-- A Major arc whose two directions have cross product 0 or more and dot product above 0 is a circle (followed by the straight edge).
unfoldable pub full_of : Sweep → Vector → Vector → Bool
full_of w d e = is_major w && le_z (pos 0) (cross_of d e) && lt_z (pos 0) (dot_of d e)

-- The circle's radius is the integer root of the start ray's squared length.
unfoldable pub ring_of : Vector → ℤ
ring_of ray = pos (root_of (square_of ray))

-- "Near": the current direction and the end's have cross and dot products of at least 0.
unfoldable pub near_of : Vector → Vector → Bool
near_of d e = le_z (pos 0) (cross_of d e) && le_z (pos 0) (dot_of d e)

-- The arc stops before a rotation whose result has cross product with the end at most 0 while the current one is near.
unfoldable pub stops_of : Vector → Vector → Vector → Bool
stops_of d next e = le_z (cross_of next e) (pos 0) && near_of d e

-- At the point p, in the direction d: rotation after rotation, each direction scaled by the radius, at most k of them; then the end contact.
unfoldable pub turns_of : ℕ → Turning → Vector → Point → List Edge
turns_of zero r d p = edge_of p r.to
turns_of (suc k) r d p =
    let next = rotated_of r.step d in
    let q = scaled_of r.centre r.radius next in
    elim (stops_of d next r.toward) [ true ↦ edge_of p r.to | false ↦ edge_of p q ++ turns_of k r next q ]

-- From p to q about a centre, the inner points at the given radius; after 1,536 rotations the arc stops in any case.
unfoldable pub swept_of : Vector → Point → ℤ → Point → Point → List Edge
swept_of t c r p q =
    turns_of 1536 (record { step = t; centre = c; radius = r; to = q; toward = direction_of (from_to c q) }) (direction_of (from_to c p)) p

-- A circle of radius 1 or less has no edges; else it is two arcs, from centre + (radius, 0) to centre - (radius, 0) and back.
unfoldable pub east_of : Point → ℤ → Point
east_of c r = record { x = c.x +ℤ r; y = c.y }

unfoldable pub west_of : Point → ℤ → Point
west_of c r = record { x = c.x -ℤ r; y = c.y }

unfoldable pub circle_of : Vector → Point → ℤ → List Edge
circle_of t c r = elim (le_z r (pos 1)) [ true ↦ [] | false ↦ swept_of t c r (east_of c r) (west_of c r) ++ swept_of t c r (west_of c r) (east_of c r) ]

-- An arc, counterclockwise from p to q about a centre: step, centre, radius of the inner points, ends, the choice for aligned rays.
unfoldable pub arc_of : Vector → Point → ℤ → Point → Point → Sweep → List Edge
arc_of t c r p q choice =
    let m = from_to c p in
    let n = from_to c q in
    let w = sweep_of m n choice in
    elim (empty_of w c p q) [
      | true ↦ []
      | false ↦ elim (full_of w (direction_of m) (direction_of n)) [ true ↦ circle_of t c (ring_of m) ++ edge_of p q | false ↦ swept_of t c r p q ]
    ]
