-- How many edges an arc can have, from the count of its rotations. Assumes nothing.
use mathlib.Core.Path.{◌≡◌, refl, ◌∙◌}
use mathlib.Core.Bool.{Bool, true, false}
use mathlib.Core.List.{List, [], ◌++◌}
use Prim.Native.Nat.{ℕ, zero, suc, ◌+◌, ◌*◌, ◌≤◌}
use native.Mathlib.Nat.{le_trans, mul_comm}
use native.Mathlib.Omega.{arith}
use lib.IntN.{ℤ, pos}
use lib.ListN.{length, length-append}
use lib.Signed.{le_z}
use Rattle.runs.specs.Runs.{spread}
use Rattle.runs.proofs.Laws.{spread-length}
use Rattle.plane.specs.Vectors.{same_point, from_to}
use Rattle.plane.specs.Directions.{direction_of, rotated_of, scaled_of}
use Rattle.plane.specs.declared.Point.{Point}
use Rattle.plane.specs.declared.Vector.{Vector}
use Rattle.turning.specs.Edges.{edge_numbers, edge_of}
use Rattle.turning.specs.Arcs.{stops_of, turns_of, swept_of, circle_of, sweep_of, empty_of, full_of, ring_of, arc_of}
use Rattle.turning.specs.Bounds.{Most}
use Rattle.turning.specs.declared.Edge.{Edge}
use Rattle.turning.specs.declared.Sweep.{Sweep}
use Rattle.turning.specs.declared.Turning.{Turning}

pub most_none : (n : ℕ) → Most n []
most_none n = record { most = omega arith }

pub most_up : {m n : ℕ} {es : List Edge} → m ≤ n → Most m es → Most n es
most_up h k = record { most = le_trans k.most h }

pub most_both : {m n : ℕ} {es fs : List Edge} → Most m es → Most n fs → Most (m + n) (es ++ fs)
most_both {es} {fs} h k = record { most = omega (arith, length-append es fs, h.most, k.most) }

pub most_if : {n : ℕ} (x : Bool) {es fs : List Edge} → Most n es → Most n fs → Most n (elim x [ true ↦ es | false ↦ fs ])
most_if true h k = h
most_if false h k = k

pub edge_most : (p q : Point) → Most 1 (edge_of p q)
unfolding edge_of
edge_most p q = most_if (same_point p q) (most_none 1) (record { most = omega arith })

pub turns_most : (k : ℕ) (r : Turning) (d : Vector) (p : Point) → Most (1 + k) (turns_of k r d p)
unfolding turns_of
turns_most zero r d p = edge_most p r.to
turns_most (suc k) r d p =
    let n = rotated_of r.step d in
    let q = scaled_of r.centre r.radius n in
    most_if (stops_of d n r.toward) (most_up (omega arith) (edge_most p r.to)) (most_up (omega arith) (most_both (edge_most p q) (turns_most k r n q)))

pub swept_most : (t : Vector) (c : Point) (r : ℤ) (p q : Point) → Most 1537 (swept_of t c r p q)
unfolding swept_of
swept_most t c r p q = turns_most 1536 _ _ p

pub circle_most : (t : Vector) (c : Point) (r : ℤ) → Most 3074 (circle_of t c r)
unfolding circle_of
circle_most t c r = most_if (le_z r (pos 1)) (most_none 3074) (most_both (swept_most t c r _ _) (swept_most t c r _ _))

pub arc_most_lem : (t : Vector) (c : Point) (r : ℤ) (p q : Point) (choice : Sweep) → Most 3075 (arc_of t c r p q choice)
unfolding arc_of
arc_most_lem t c r p q choice =
    let m = from_to c p in
    let n = from_to c q in
    let w = sweep_of m n choice in
    most_if (empty_of w c p q) (most_none 3075) (most_if (full_of w (direction_of m) (direction_of n)) (most_both (circle_most t c (ring_of m)) (edge_most p q)) (most_up (omega arith) (swept_most t c r p q)))

-- ---- four numbers an edge

pub edges_four : (es : List Edge) → length (spread edge_numbers es) ≡ 4 * length es
unfolding edge_numbers
edges_four es = spread-length edge_numbers 4 (λ e. refl) es ∙ mul_comm (length es) 4
