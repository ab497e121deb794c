-- How many edges an arc can have, by grade: a half of a circle goes through two quarters, any other arc through four. Assumes nothing.
use mathlib.Core.Path.{◌≡◌, refl}
use mathlib.Core.Bool.{Bool, true, false}
use mathlib.Core.List.{[], ◌++◌}
use Prim.Native.Nat.{ℕ, ◌+◌, ◌*◌, ◌^◌, ◌≤◌}
use native.Mathlib.Omega.{arith}
use lib.IntN.{ℤ, pos, neg_ℤ}
use lib.Signed.{le_z, ◌≤ℤ◌}
use Rattle.whole.proofs.Signed.{le_from}
use Rattle.plane.specs.Vectors.{from_to, cross_of}
use Rattle.plane.specs.Directions.{direction_of, step_of}
use Rattle.plane.specs.declared.Point.{Point}
use Rattle.plane.specs.declared.Vector.{Vector}
use Rattle.turning.specs.Arcs.{sweep_of, empty_of, full_of, ring_of, swept_of, east_of, west_of, circle_of, arc_of}
use Rattle.turning.specs.Bounds.{Most}
use Rattle.turning.specs.declared.Turning.{Turning}
use Rattle.turning.proofs.Most.{most_none, most_up, most_both, most_if, edge_most, turns_most}
use Rattle.turning.proofs.Rays.{east_some, west_some, eastward_told, westward_told}
use Rattle.quarter.specs.Rotations.{quarter_of, rotations_of}
use Rattle.quarter.specs.Most.{arc_most, SweptMost, ArcMost, CircleMost}
use Rattle.quarter.proofs.NotCounted.{Stops, arc_stops, half_stops, count_enough, rotations_most}

module _ (g : ℕ) (h : 1 ≤ g) (u : g ≤ 8) where
  -- an arc that stops after fewer than k rotations has no more than k edges
  stopped_most : (k : ℕ) (c : Point) (r : ℤ) (p q : Point) → k ≤ 1536 → Stops (step_of g) (direction_of (from_to c p)) (direction_of (from_to c q)) k → Most k (swept_of (step_of g) c r p q)
  unfolding swept_of
  stopped_most k c r p q l s =
      let arc : Turning = record { step = step_of g; centre = c; radius = r; to = q; toward = direction_of (from_to c q) } in
      let d = direction_of (from_to c p) in
      most_up (let b : 1 + s.turns ≤ k = omega (arith, s.few) in b) (rw (count_enough s.turns 1536 arc d p (omega (arith, s.few, l)) s.stops) (turns_most s.turns arc d p))

  swept_few : (c : Point) (r : ℤ) (p q : Point) → Most (4 * quarter_of (step_of g)) (swept_of (step_of g) c r p q)
  swept_few c r p q = stopped_most (4 * quarter_of (step_of g)) c r p q (rotations_most g h u) (arc_stops g (from_to c p) (from_to c q) h u)

  -- the two halves of a circle: their ends lie opposite
  opposite : {d e : Vector} → record { x = pos (2 ^ 30); y = pos 0 } ≡ d → record { x = neg_ℤ (pos (2 ^ 30)); y = pos 0 } ≡ e → (pos 0 ≤ℤ cross_of d e) × (pos 0 ≤ℤ cross_of e d)
  unfolding cross_of
  opposite a b = rw (← a, ← b) (le_from (pos 0) (pos 0) (omega arith), le_from (pos 0) (pos 0) (omega arith))

  module _ (c : Point) (r : ℤ) (l : le_z r (pos 1) ≡ false) where
    ends : (pos 0 ≤ℤ cross_of (direction_of (from_to c (east_of c r))) (direction_of (from_to c (west_of c r)))) × (pos 0 ≤ℤ cross_of (direction_of (from_to c (west_of c r))) (direction_of (from_to c (east_of c r))))
    ends = opposite (eastward_told c r l refl) (westward_told c r l refl)

    there_few : Most (2 * quarter_of (step_of g)) (swept_of (step_of g) c r (east_of c r) (west_of c r))
    there_few =
        stopped_most (2 * quarter_of (step_of g)) c r (east_of c r) (west_of c r) (omega (arith, rotations_most g h u))
        (half_stops g (from_to c (east_of c r)) (from_to c (west_of c r)) h u (east_some c r l) (west_some c r l) ends.0)

    back_few : Most (2 * quarter_of (step_of g)) (swept_of (step_of g) c r (west_of c r) (east_of c r))
    back_few =
        stopped_most (2 * quarter_of (step_of g)) c r (west_of c r) (east_of c r) (omega (arith, rotations_most g h u))
        (half_stops g (from_to c (west_of c r)) (from_to c (east_of c r)) h u (west_some c r l) (east_some c r l) ends.1)

  circle_few : (c : Point) (r : ℤ) → Most (4 * quarter_of (step_of g)) (circle_of (step_of g) c r)
  unfolding circle_of
  circle_few c r = go (le_z r (pos 1)) refl
    where
      go : (x : Bool) → le_z r (pos 1) ≡ x
          → Most (4 * quarter_of (step_of g)) (elim x [ true ↦ [] | false ↦ swept_of (step_of g) c r (east_of c r) (west_of c r) ++ swept_of (step_of g) c r (west_of c r) (east_of c r) ])
      go true e = most_none (4 * quarter_of (step_of g))
      go false e = most_up (omega arith) (most_both (there_few c r e) (back_few c r e))

pub swept_by_grade : SweptMost
unfolding rotations_of
swept_by_grade g c r p q h u = swept_few g h u c r p q

pub circle_by_grade : CircleMost
unfolding arc_most rotations_of
circle_by_grade g c r h u = most_up (omega arith) (circle_few g h u c r)

pub arc_by_grade : ArcMost
unfolding arc_most rotations_of arc_of
arc_by_grade g c r p q choice h u =
    let m = from_to c p in
    let n = from_to c q in
    let w = sweep_of m n choice in
    most_if (empty_of w c p q) (most_none (4 * quarter_of (step_of g) + 1))
    (most_if (full_of w (direction_of m) (direction_of n)) (most_both (circle_few g h u c (ring_of m)) (edge_most p q)) (most_up (omega arith) (swept_few g h u c r p q)))
