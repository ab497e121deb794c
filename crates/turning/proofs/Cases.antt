-- One law for each case of a rule, with what the code has computed as variables and equations, so that a proof cites it with the facts of `c`.
-- Assumes nothing.
use mathlib.Core.Path.{◌≡◌, refl, sym}
use mathlib.Core.Bool.{Bool, true, false, true≢false, or-true, or-false}
use mathlib.Core.List.{[], ◌++◌}
use Prim.Native.Nat.{ℕ, zero, suc, ◌+◌, ◌-◌, ◌≤◌, ◌<◌}
use native.Mathlib.Numerals.{sub-one}
use native.Mathlib.Omega.{arith}
use denote.Enum.Bare.{sameb}
use lib.IntN.{ℤ, pos}
use lib.Signed.{le_z, lt_z}
use Rattle.plane.specs.Vectors.{same_point, from_to, cross_of, dot_of}
use Rattle.plane.specs.Directions.{direction_of, rotated_of, scaled_of}
use Rattle.plane.specs.declared.Point.{Point}
use Rattle.plane.specs.declared.Vector.{Vector}
use Rattle.turning.specs.Edges.{edge_of}
use Rattle.turning.specs.Arcs.{sweep_of, is_major, empty_of, full_of, ring_of, near_of, stops_of, turns_of, swept_of, east_of, west_of, circle_of, arc_of}
use Rattle.turning.specs.contracts.Sweep.{the_type}
use Rattle.turning.specs.declared.Sweep.{Sweep}
use Rattle.turning.specs.declared.Sweep.TheVariants.{Minor, Major}
use Rattle.turning.specs.declared.Turning.{Turning}

-- ---- how far an arc turns: z is the rays' cross product, y their dot product

module _ (m n : Vector) (choice : Sweep) {z : ℤ} (e : z ≡ cross_of m n) where
  pub sweep_left : lt_z (pos 0) z ≡ true → Minor ≡ sweep_of m n choice
  unfolding sweep_of
  sweep_left h = rw (← e, h, sweep_of)

  pub sweep_right : lt_z (pos 0) z ≡ false → lt_z z (pos 0) ≡ true → Major ≡ sweep_of m n choice
  unfolding sweep_of
  sweep_right h i = rw (← e, h, ← e, i, sweep_of)

  pub sweep_back : {y : ℤ} → lt_z (pos 0) z ≡ false → lt_z z (pos 0) ≡ false → y ≡ dot_of m n → lt_z y (pos 0) ≡ true → Minor ≡ sweep_of m n choice
  unfolding sweep_of
  sweep_back h i f j = rw (← e, h, ← e, i, ← f, j, sweep_of)

  pub sweep_chosen : {y : ℤ} → lt_z (pos 0) z ≡ false → lt_z z (pos 0) ≡ false → y ≡ dot_of m n → lt_z y (pos 0) ≡ false → choice ≡ sweep_of m n choice
  unfolding sweep_of
  sweep_chosen h i f j = rw (← e, h, ← e, i, ← f, j, sweep_of)

-- ---- which kind the test for one kind tells

pub is_minor_told : (w : Sweep) → true ≡ sameb the_type w Minor → w ≡ Minor
is_minor_told Minor e = refl
is_minor_told Major e = absurd (true≢false e)

pub is_major_told : (w : Sweep) → false ≡ sameb the_type w Minor → w ≡ Major
is_major_told Minor e = absurd (true≢false (sym e))
is_major_told Major e = refl

pub major_told : (w : Sweep) → true ≡ sameb the_type w Major → w ≡ Major
major_told Minor e = absurd (true≢false e)
major_told Major e = refl

pub minor_told : (w : Sweep) → false ≡ sameb the_type w Major → w ≡ Minor
minor_told Minor e = refl
minor_told Major e = absurd (true≢false (sym e))

-- ---- whether it has no edges

pub empty_start : (w : Sweep) (c p q : Point) → same_point p c ≡ true → true ≡ empty_of w c p q
unfolding empty_of
empty_start Minor c p q h = rw (h, or-true)
empty_start Major c p q h = rw h

pub empty_end : (w : Sweep) (c p q : Point) → same_point q c ≡ true → true ≡ empty_of w c p q
unfolding empty_of
empty_end Minor c p q h = rw (h, or-true)
empty_end Major c p q h = rw (h, or-true)

pub empty_minor : (c p q : Point) {w : Sweep} → w ≡ Minor → same_point p c ≡ false → same_point q c ≡ false → same_point p q ≡ empty_of w c p q
unfolding empty_of
empty_minor c p q e h k = rw (e, h, k, or-false, or-false)

pub empty_major : (c p q : Point) {w : Sweep} → w ≡ Major → same_point p c ≡ false → same_point q c ≡ false → false ≡ empty_of w c p q
unfolding empty_of
empty_major c p q e h k = rw (e, h, k)

-- ---- whether it is a circle: x is the directions' cross product, y their dot product

module _ (d e : Vector) {w : Sweep} where
  pub full_minor : w ≡ Minor → false ≡ full_of w d e
  unfolding full_of is_major
  full_minor i = rw i

  pub full_first : {x y : ℤ} → w ≡ Major → x ≡ cross_of d e → y ≡ dot_of d e → le_z (pos 0) x ≡ true → lt_z (pos 0) y ≡ full_of w d e
  unfolding full_of is_major
  full_first i f g h = rw (i, ← f, h, g)

  pub full_not : {x : ℤ} → w ≡ Major → x ≡ cross_of d e → le_z (pos 0) x ≡ false → le_z (pos 0) x ≡ full_of w d e
  unfolding full_of is_major
  full_not i f h = rw (i, ← f, h)

-- ---- whether an arc stops: x is a cross product, y a dot product

module _ (d e : Vector) {x : ℤ} (f : x ≡ cross_of d e) where
  pub near_first : {y : ℤ} → y ≡ dot_of d e → le_z (pos 0) x ≡ true → le_z (pos 0) y ≡ near_of d e
  unfolding near_of
  near_first g h = rw (← f, h, g)

  pub near_not : le_z (pos 0) x ≡ false → le_z (pos 0) x ≡ near_of d e
  unfolding near_of
  near_not h = rw (← f, h)

module _ (d n e : Vector) {x : ℤ} (f : x ≡ cross_of n e) where
  pub stops_near : {b : Bool} → b ≡ near_of d e → le_z x (pos 0) ≡ true → b ≡ stops_of d n e
  unfolding stops_of
  stops_near g h = rw (← f, h, g)

  pub stops_not : le_z x (pos 0) ≡ false → le_z x (pos 0) ≡ stops_of d n e
  unfolding stops_of
  stops_not h = rw (← f, h)

-- ---- turning: no rotation is left, this one stops the arc, or it goes on

pub turns_end : (k : ℕ) (r : Turning) (d : Vector) (p : Point) → k ≤ 0 → turns_of k r d p ≡ edge_of p r.to
unfolding turns_of
turns_end zero r d p h = refl
turns_end (suc k) r d p h = absurd (omega arith)

pub turns_stop : (k : ℕ) (r : Turning) (d : Vector) (p : Point) {n : Vector} {x : Bool} → 0 < k → n ≡ rotated_of r.step d → x ≡ stops_of d n r.toward → x ≡ true
    → turns_of k r d p ≡ edge_of p r.to
unfolding turns_of
turns_stop zero r d p h e f g = absurd (omega arith)
turns_stop (suc k) r d p h e f g =
    rw (← e, ← f, g, turns_of)

pub turns_go : (k : ℕ) (r : Turning) (d : Vector) (p : Point) {n : Vector} {q : Point} {x : Bool} → 0 < k → n ≡ rotated_of r.step d → x ≡ stops_of d n r.toward → x ≡ false
    → q ≡ scaled_of r.centre r.radius n → turns_of k r d p ≡ edge_of p q ++ turns_of (k - 1) r n q
unfolding turns_of
turns_go zero r d p h e f g i = absurd (omega arith)
turns_go (suc k) r d p h e f g i =
    rw (sub-one, i, ← e, ← f, g, e, turns_of)

-- ---- the same at the n-th rotation, from 0 on, of at most 1,536

pub rotations_left : {n : ℕ} → n < 1536 → 0 < 1536 - n
rotations_left h = omega arith

pub rotations_none : {n : ℕ} → 1536 ≤ n → 1536 - n ≤ 0
rotations_none h = omega arith

one_fewer : (n : ℕ) → 1536 - n - 1 ≡ 1536 - (n + 1)
one_fewer n = omega arith

pub turns_next : (k : ℕ) (r : Turning) (d : Vector) (p : Point) {n : Vector} {q : Point} {x : Bool} → k < 1536 → n ≡ rotated_of r.step d → x ≡ stops_of d n r.toward → x ≡ false
    → q ≡ scaled_of r.centre r.radius n → turns_of (1536 - k) r d p ≡ edge_of p q ++ turns_of (1536 - (k + 1)) r n q
turns_next k r d p {n} {q} h e f g i = rw (← one_fewer k) (turns_go (1536 - k) r d p (rotations_left h) e f g i)

-- ---- from p to q: m and n are the rays, d and u their directions, s the radius

pub swept_turns : (t : Vector) (c : Point) (r : ℤ) (p q : Point) {s : ℤ} {m n d u : Vector} → s ≡ r → m ≡ from_to c p → n ≡ from_to c q → d ≡ direction_of m → u ≡ direction_of n
    → swept_of t c r p q ≡ turns_of 1536 (record { step = t; centre = c; radius = s; to = q; toward = u }) d p
unfolding swept_of
swept_turns t c r p q e f g h i = rw (e, h, i, f, g)

-- ---- a circle: s is the radius, e and w its ends

pub circle_none : (t : Vector) (c : Point) {r s : ℤ} → s ≡ r → le_z s (pos 1) ≡ true → circle_of t c r ≡ []
unfolding circle_of
circle_none t c e h = rw (← e, h, circle_of)

pub circle_some : (t : Vector) (c : Point) {r s : ℤ} {e w : Point} → s ≡ r → le_z s (pos 1) ≡ false → e ≡ east_of c s → w ≡ west_of c s → circle_of t c r ≡ swept_of t c s e w ++ swept_of t c s w e
unfolding circle_of
circle_some t c e h f g = rw (f, g, ← e, h, e, circle_of)

-- ---- an arc: m and n are the rays, d and u their directions, x and y the tests

module _ (t : Vector) (c : Point) (r : ℤ) (p q : Point) (choice : Sweep) {m n : Vector} {w : Sweep} {x : Bool} (e : m ≡ from_to c p) (f : n ≡ from_to c q) (g : w ≡ sweep_of m n choice) (h : x ≡ empty_of w c p q) where
  pub arc_empty : x ≡ true → arc_of t c r p q choice ≡ []
  unfolding arc_of
  arc_empty i = rw (← e, ← f, ← g, ← h, i, arc_of)

  pub arc_full : {d u : Vector} {y : Bool} → x ≡ false → d ≡ direction_of m → u ≡ direction_of n → y ≡ full_of w d u → y ≡ true
      → arc_of t c r p q choice ≡ circle_of t c (ring_of (from_to c p)) ++ edge_of p q
  unfolding arc_of
  arc_full i j k l o = rw (← e, ← f, ← g, ← h, i, ← e, ← f, ← g, ← j, ← k, ← l, o, e, arc_of)

  pub arc_swept : {d u : Vector} {y : Bool} → x ≡ false → d ≡ direction_of m → u ≡ direction_of n → y ≡ full_of w d u → y ≡ false → arc_of t c r p q choice ≡ swept_of t c r p q
  unfolding arc_of
  arc_swept i j k l o = rw (← e, ← f, ← g, ← h, i, ← e, ← f, ← g, ← j, ← k, ← l, o, arc_of)
