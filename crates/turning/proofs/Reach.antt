-- How far out an arc's edges end, from the limits of its centre and radius. Assumes nothing.
use mathlib.Core.Path.{◌≡◌, refl}
use mathlib.Core.Bool.{Bool, true, false}
use mathlib.Core.List.{List, [], ◌∷◌, ◌++◌}
use Prim.Native.Nat.{ℕ, zero, suc, ◌<◌}
use lib.IntN.{ℤ, pos}
use lib.Signed.{le_z}
use Rattle.plane.specs.Vectors.{Near, same_point, from_to, square_of}
use Rattle.plane.specs.Directions.{UnitLong, direction_of, rotated_of, scaled_of}
use Rattle.plane.proofs.Directions.{direction_unit, turned_unit}
use Rattle.plane.specs.declared.Point.{Point}
use Rattle.plane.specs.declared.Vector.{Vector}
use Rattle.turning.specs.Edges.{edge_of}
use Rattle.turning.specs.Arcs.{stops_of, turns_of, swept_of, east_of, west_of, circle_of, sweep_of, empty_of, full_of, ring_of, arc_of}
use Rattle.turning.specs.Bounds.{AllReach, Centre, Radius, About, Turns}
use Rattle.turning.specs.declared.Edge.{Edge}
use Rattle.turning.specs.declared.Sweep.{Sweep}
use Rattle.turning.specs.declared.Turning.{Turning}
use Rattle.turning.proofs.Limits.{point_near}
use Rattle.turning.proofs.Rays.{about_near, ring_radius, not_empty_some, east_about, west_about, east_some, west_some}

pub all_reach_none : AllReach []
unfolding AllReach
all_reach_none = tt

pub all_reach_append : (es fs : List Edge) → AllReach es → AllReach fs → AllReach (es ++ fs)
unfolding AllReach
all_reach_append [] fs h k = k
all_reach_append (e ∷ es) fs h k = (h.0, all_reach_append es fs h.1 k)

-- by a test whose outcome each side may use
pub all_reach_if : (x : Bool) (es fs : List Edge) → (x ≡ true → AllReach es) → (x ≡ false → AllReach fs) → AllReach (elim x [ true ↦ es | false ↦ fs ])
all_reach_if true es fs h k = h refl
all_reach_if false es fs h k = k refl

pub edge_reach : (p q : Point) → Near p → Near q → AllReach (edge_of p q)
unfolding edge_of AllReach
edge_reach p q h k = all_reach_if (same_point p q) _ _ (λ _. tt) (λ _. (record { a = h; b = k }, tt))

pub turns_reach : (k : ℕ) (r : Turning) (d : Vector) (p : Point) → Turns r → UnitLong d → Near p → AllReach (turns_of k r d p)
unfolding turns_of
turns_reach zero r d p h u l = edge_reach p r.to l h.to
turns_reach (suc k) r d p h u l =
    let n = rotated_of r.step d in
    let q = scaled_of r.centre r.radius n in
    let v = turned_unit h.step u in
    let m = point_near h.centre h.radius v in
    all_reach_if (stops_of d n r.toward) _ _ (λ _. edge_reach p r.to l h.to) (λ _. all_reach_append (edge_of p q) (turns_of k r n q) (edge_reach p q l m) (turns_reach k r n q h v m))

pub swept_reach : (t : Vector) (c : Point) (r : ℤ) (p q : Point) → UnitLong t → Centre c → Radius r → About c p → About c q → 0 < square_of (from_to c p) → 0 < square_of (from_to c q)
    → AllReach (swept_of t c r p q)
unfolding swept_of
swept_reach t c r p q u h k i j m n =
    turns_reach 1536 _ _ p (record { step = u; centre = h; radius = k; to = about_near j h; toward = direction_unit (from_to c q) n }) (direction_unit (from_to c p) m) (about_near i h)

pub circle_reach : (t : Vector) (c : Point) (r : ℤ) → UnitLong t → Centre c → Radius r → AllReach (circle_of t c r)
unfolding circle_of
circle_reach t c r u h k =
    let e = east_of c r in
    let w = west_of c r in
    let i = east_about c k in
    let j = west_about c k in
    all_reach_if (le_z r (pos 1)) _ _ (λ _. all_reach_none)
    (λ b. all_reach_append (swept_of t c r e w) (swept_of t c r w e) (swept_reach t c r e w u h k i j (east_some c r b) (west_some c r b)) (swept_reach t c r w e u h k j i (west_some c r b) (east_some c r b)))

pub arc_reach : (t : Vector) (c : Point) (r : ℤ) (p q : Point) (choice : Sweep) → UnitLong t → Centre c → Radius r → About c p → About c q → AllReach (arc_of t c r p q choice)
unfolding arc_of
arc_reach t c r p q choice u h k i j =
    let m = from_to c p in
    let n = from_to c q in
    let w = sweep_of m n choice in
    all_reach_if (empty_of w c p q) _ _ (λ _. all_reach_none)
    (λ b. all_reach_if (full_of w (direction_of m) (direction_of n)) _ _ (λ _. all_reach_append (circle_of t c (ring_of m)) (edge_of p q) (circle_reach t c (ring_of m) u h (ring_radius i)) (edge_reach p q (about_near i h) (about_near j h)))
    (λ _. swept_reach t c r p q u h k i j (not_empty_some w c p q b).0 (not_empty_some w c p q b).1))
