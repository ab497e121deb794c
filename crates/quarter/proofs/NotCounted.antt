-- No arc is stopped by the count: from any direction to any other, by the step of any grade, its own rule stops it first. Assumes nothing.
use mathlib.Core.Path.{◌≡◌, refl, sym, ap, ◌∙◌}
use mathlib.Core.Bool.{Bool, true, false}
use mathlib.Core.List.{◌++◌}
use Prim.Native.Nat.{ℕ, zero, suc, ◌+◌, ◌-◌, ◌*◌, ◌^◌, ◌≤◌, ◌<◌, ◌/◌}
use native.Mathlib.Nat.{mul-le-mul_left, mul-le-mul_right, mul-zero, zero-mul, div-lt_iff_lt-mul, lt_of_not-le}
use native.Mathlib.Decide.{dec_le}
use native.Mathlib.Omega.{arith}
use lib.Dec.{lit≤}
use lib.IntN.{ℤ, pos, neg_ℤ, nat_abs, neg_ℤ-neg_ℤ}
use lib.Signed.{le_z, ◌≤ℤ◌}
use Rattle.whole.proofs.Signed.{ext, abs_is, le_from, le_to, up-neg, down-neg}
use Rattle.whole.proofs.Order.{le_true, le_false}
use Rattle.whole.proofs.Squares.{square_le}
use Rattle.number.specs.Root.{corrected_of, root_in, root_of}
use Rattle.plane.specs.Vectors.{from_to, cross_of, dot_of, square_of}
use Rattle.plane.specs.Directions.{part_of, component_of, direction_of, step_of, rotated_of, scaled_of, UnitLong}
use Rattle.plane.specs.declared.Point.{Point}
use Rattle.plane.specs.declared.Vector.{Vector}
use Rattle.plane.proofs.Directions.{turned_no_longer, direction_unit, direction_long, step_unit, step_long}
use Rattle.turning.specs.Arcs.{near_of, stops_of, turns_of, swept_of}
use Rattle.turning.specs.Edges.{edge_of}
use Rattle.turning.specs.declared.Turning.{Turning}
use Rattle.leaps.specs.Leaps.{turned_of}
use Rattle.quarter.specs.Rotations.{excess_of, quarter_of, rotations_of, swept_within, NoArcCounted}
use Rattle.quarter.proofs.Gains.{products}
use Rattle.quarter.proofs.Arrivals.{Quarter, StaysLong, Advances, Arrives, rights, right_of, dot_right, cross_right, arrives}

-- an arc from d towards e stops by its rule after fewer than k rotations
pub record Stops (t d e : Vector) (k : ℕ) : Type 0 where
  pub turns : ℕ
  pub few : turns < k
  pub stops : stops_of (turned_of turns t d) (turned_of (suc turns) t d) e ≡ true

stops_up : {t d e : Vector} {j k : ℕ} → j ≤ k → Stops t d e j → Stops t d e k
stops_up h s = record { turns = s.turns; few = omega (arith, h, s.few); stops = s.stops }

-- ---- which quarter before e a direction lies in, of e and e turned once, twice and three times to the right

record InQuarter (e d : Vector) : Type 0 where
  quarters : ℕ
  few : quarters ≤ 3
  half : pos 0 ≤ℤ cross_of d e → quarters ≤ 1
  there : Quarter (rights quarters e) d

lies : (d e : Vector) → InQuarter e d
unfolding rights
lies d e = go (le_z (pos 0) (dot_of d e)) (le_z (pos 0) (cross_of d e)) refl refl
  where
    one : pos 0 ≤ℤ cross_of d e → pos 0 ≤ℤ neg_ℤ (dot_of d e) → Quarter (right_of e) d
    one h k = record { dot = rw (dot_right d e) h; cross = rw (cross_right d e) k }

    two : pos 0 ≤ℤ neg_ℤ (dot_of d e) → pos 0 ≤ℤ neg_ℤ (cross_of d e) → Quarter (right_of (right_of e)) d
    two h k = record { dot = rw (dot_right d (right_of e), cross_right d e) h; cross = rw (cross_right d (right_of e), dot_right d e) k }

    three : pos 0 ≤ℤ neg_ℤ (cross_of d e) → pos 0 ≤ℤ dot_of d e → Quarter (right_of (right_of (right_of e))) d
    three h k = record {
      dot = rw (dot_right d (right_of (right_of e)), cross_right d (right_of e), dot_right d e) h;
      cross = rw (cross_right d (right_of (right_of e)), dot_right d (right_of e), cross_right d e, neg_ℤ-neg_ℤ (dot_of d e)) k;
    }

    yes : (z : ℤ) → le_z (pos 0) z ≡ true → pos 0 ≤ℤ z
    yes z w = le_from (pos 0) z (le_true (pos 0) z w)

    no : (z : ℤ) → le_z (pos 0) z ≡ false → pos 0 ≤ℤ neg_ℤ z
    no z w = le_from (pos 0) (neg_ℤ z) (omega (arith, le_false (pos 0) z w, up-neg z, down-neg z))

    never : {n : ℕ} → le_z (pos 0) (cross_of d e) ≡ false → pos 0 ≤ℤ cross_of d e → n ≤ 1
    never w h = absurd (omega (arith, le_false (pos 0) (cross_of d e) w, le_to h))

    go : (x y : Bool) → le_z (pos 0) (dot_of d e) ≡ x → le_z (pos 0) (cross_of d e) ≡ y → InQuarter e d
    go true true v w = record { quarters = 0; few = omega arith; half = λ h. omega arith; there = record { dot = yes (dot_of d e) v; cross = yes (cross_of d e) w } }
    go false true v w = record { quarters = 1; few = omega arith; half = λ h. omega arith; there = one (yes (cross_of d e) w) (no (dot_of d e) v) }
    go false false v w = record { quarters = 2; few = omega arith; half = never w; there = two (no (dot_of d e) v) (no (cross_of d e) w) }
    go true false v w = record { quarters = 3; few = omega arith; half = never w; there = three (no (cross_of d e) w) (yes (dot_of d e) v) }

-- ---- the eight steps

-- with what its numbers give: a quarter has few rotations, so that four have no more than 1,536
record StepNumbers (g : ℕ) : Type 0 where
  cosine : ℕ
  sine : ℕ
  excess : ℕ
  advances : Advances (step_of g) cosine sine excess
  some : 0 < excess * (2 ^ 30 - 2 ^ 15)
  quarter : quarter_of (step_of g) ≡ 2 ^ 61 / (excess * (2 ^ 30 - 2 ^ 15)) + 1
  few : quarter_of (step_of g) ≤ 384

step_at : (g c s f : ℕ) → step_of g ≡ record { x = pos c; y = pos s } → c + s ≡ 2 ^ 30 + f → 3 * 2 ^ 16 ≤ f → quarter_of (step_of g) ≡ 2 ^ 61 / (f * (2 ^ 30 - 2 ^ 15)) + 1 → quarter_of (step_of g) ≤ 384 → StepNumbers g
step_at g c s f e h k q m = record {
  cosine = c;
  sine = s;
  excess = f;
  advances = record { x = ap (λ (v : Vector). v.x) e; y = ap (λ (v : Vector). v.y) e; unit = step_unit g refl; long = step_long g refl; excess = h; far = k };
  some = omega (arith, k);
  quarter = q;
  few = m;
}

steps : (g : ℕ) → 1 ≤ g → g ≤ 8 → StepNumbers g
unfolding corrected_of root_in root_of square_of part_of component_of direction_of step_of excess_of quarter_of
steps zero h k = absurd (omega (arith, h))
steps (suc zero) h k = step_at 1 644245094 858993459 429496729 refl refl (lit≤ tt) refl (lit≤ tt)
steps (suc (suc zero)) h k = step_at 2 947419256 505290270 378967702 refl refl (lit≤ tt) refl (lit≤ tt)
steps (suc (suc (suc zero))) h k = step_at 3 1040703614 264305679 231267469 refl refl (lit≤ tt) refl (lit≤ tt)
steps (suc (suc (suc (suc zero)))) h k = step_at 4 1065385856 133695480 125339512 refl refl (lit≤ tt) refl (lit≤ tt)
steps (suc (suc (suc (suc (suc zero))))) h k = step_at 5 1071646718 67043391 64948285 refl refl (lit≤ tt) refl (lit≤ tt)
steps (suc (suc (suc (suc (suc (suc zero)))))) h k = step_at 6 1073217663 33546241 33022080 refl refl (lit≤ tt) refl (lit≤ tt)
steps (suc (suc (suc (suc (suc (suc (suc zero))))))) h k = step_at 7 1073610759 16776192 16645127 refl refl (lit≤ tt) refl (lit≤ tt)
steps (suc (suc (suc (suc (suc (suc (suc (suc zero)))))))) h k = step_at 8 1073709056 8388480 8355712 refl refl (lit≤ tt) refl (lit≤ tt)
steps (suc (suc (suc (suc (suc (suc (suc (suc (suc g))))))))) h k = absurd (omega (arith, k))

-- ---- where an arc stops

le_yes : (a b : ℤ) → a ≤ℤ b → le_z a b ≡ true
le_yes a b h = go (le_z a b) refl
  where
    go : (x : Bool) → le_z a b ≡ x → x ≡ true
    go true w = refl
    go false w = absurd (omega (arith, le_false a b w, le_to h))

arrived : {t d e : Vector} {k : ℕ} → Arrives t e d k → Stops t d e k
unfolding stops_of near_of
arrived {t} {d} {e} r = record {
  turns = r.turns;
  few = r.few;
  stops = rw (le_yes (cross_of (turned_of (suc r.turns) t d) e) (pos 0) r.past, le_yes (pos 0) (cross_of (turned_of r.turns t d) e) r.near.cross, le_yes (pos 0) (dot_of (turned_of r.turns t d) e) r.near.dot) refl;
}

-- between two rays, neither of them without length
module _ (g : ℕ) (m n : Vector) (h : 1 ≤ g) (k : g ≤ 8) (a : 0 < square_of m) (b : 0 < square_of n) where
  rays_stop : (j : ℕ) → (lies (direction_of m) (direction_of n)).quarters ≤ j → j ≤ 3 → Stops (step_of g) (direction_of m) (direction_of n) (quarter_of (step_of g) * suc j)
  rays_stop j l u =
      let S = steps g h k in
      let at = lies (direction_of m) (direction_of n) in
      let z = quarter_of (step_of g) in
      let gain = S.excess * (2 ^ 30 - 2 ^ 15) in
      let far : 2 ^ 61 < z * gain = rw S.quarter ((div-lt_iff_lt-mul {k = gain} {x = 2 ^ 61} {y = 2 ^ 61 / gain + 1} S.some).0 (omega arith)) in
      let K : StaysLong 0 (direction_of m) = record { unit = direction_unit m a; long = omega (arith, direction_long m a) } in
      let w : z * suc at.quarters ≤ z * suc j = mul-le-mul_left z (let q : suc at.quarters ≤ suc j = omega (arith, l) in q) in
      let v : z * suc j ≤ z * 4 = mul-le-mul_left z (let q : suc j ≤ 4 = omega (arith, u) in q) in
      stops_up w
      (arrived (arrives S.advances gain refl z far at.quarters 0 (direction_of n) (direction_of m) (direction_unit n b) (omega (arith, direction_long n b)) K (omega (arith, w, v, S.few)) at.there))

-- a ray without length has a direction without length,
no_direction : (v : Vector) → square_of v ≡ 0 → square_of (direction_of v) ≡ 0
unfolding square_of direction_of component_of part_of root_of root_in
no_direction v h =
    let x : v.x ≡ pos 0 = none v.x (omega (arith, h)) in
    let y : v.y ≡ pos 0 = none v.y (omega (arith, h)) in
    rw (x, y) refl
  where
    none : (z : ℤ) → nat_abs z * nat_abs z ≤ 0 → z ≡ pos 0
    none z l = let s = square_le (nat_abs z) 0 (omega (arith, l)) in ext z (pos 0) (omega (arith, abs_is z, s))

-- and where one of two directions has no length an arc stops at once
no_products : (d e : Vector) → square_of d * square_of e ≡ 0 → (nat_abs (dot_of d e) ≤ 0) × (nat_abs (cross_of d e) ≤ 0)
no_products d e h = (square_le (nat_abs (dot_of d e)) 0 (omega (arith, products d e, h)), square_le (nat_abs (cross_of d e)) 0 (omega (arith, products d e, h)))

at_most_none : (z : ℤ) → nat_abs z ≤ 0 → le_z z (pos 0) ≡ true
at_most_none z h = le_yes z (pos 0) (le_from z (pos 0) (omega (arith, abs_is z, h)))

at_least_none : (z : ℤ) → nat_abs z ≤ 0 → le_z (pos 0) z ≡ true
at_least_none z h = le_yes (pos 0) z (le_from (pos 0) z (omega (arith, abs_is z, h)))

stops_at_once : (t d e : Vector) (k : ℕ) → UnitLong t → 0 < k → square_of d * square_of e ≡ 0 → Stops t d e k
unfolding stops_of near_of turned_of
stops_at_once t d e k u l h =
    let now = no_products d e h in
    let next = no_products (rotated_of t d) e (omega (arith, h, mul-le-mul_right (square_of e) (turned_no_longer t d u))) in
    record { turns = 0; few = l; stops = rw (at_most_none (cross_of (rotated_of t d) e) next.1, at_least_none (cross_of d e) now.1, at_least_none (dot_of d e) now.0) refl }

quarter_some : (t : Vector) → 0 < quarter_of t
unfolding quarter_of
quarter_some t = omega arith

-- so between any two rays
pub arc_stops : (g : ℕ) (m n : Vector) → 1 ≤ g → g ≤ 8 → Stops (step_of g) (direction_of m) (direction_of n) (4 * quarter_of (step_of g))
arc_stops g m n h k = go (dec_le 1 (square_of m)) (dec_le 1 (square_of n))
  where
    once : square_of (direction_of m) * square_of (direction_of n) ≡ 0 → Stops (step_of g) (direction_of m) (direction_of n) (4 * quarter_of (step_of g))
    once e = stops_at_once (step_of g) (direction_of m) (direction_of n) (4 * quarter_of (step_of g)) (step_unit g refl) (omega (arith, quarter_some (step_of g))) e

    go : Dec (1 ≤ square_of m) → Dec (1 ≤ square_of n) → Stops (step_of g) (direction_of m) (direction_of n) (4 * quarter_of (step_of g))
    go (yes a) (yes b) = stops_up (omega arith) (rays_stop g m n h k a b 3 (lies (direction_of m) (direction_of n)).few (omega arith))
    go (yes a) (no b) = once (ap (λ (j : ℕ). square_of (direction_of m) * j) (no_direction n (omega (arith, lt_of_not-le b))) ∙ mul-zero (square_of (direction_of m)))
    go (no a) d = once (ap (λ (j : ℕ). j * square_of (direction_of n)) (no_direction m (omega (arith, lt_of_not-le a))) ∙ zero-mul (square_of (direction_of n)))

-- and sooner where the way is no longer than half a turn
pub half_stops : (g : ℕ) (m n : Vector) → 1 ≤ g → g ≤ 8 → 0 < square_of m → 0 < square_of n → pos 0 ≤ℤ cross_of (direction_of m) (direction_of n)
    → Stops (step_of g) (direction_of m) (direction_of n) (2 * quarter_of (step_of g))
half_stops g m n h k a b l = stops_up (omega arith) (rays_stop g m n h k a b 1 ((lies (direction_of m) (direction_of n)).half l) (omega arith))

-- ---- the count

-- where an arc stops by its rule after n rotations, every count from n on gives the same edges
pub count_enough : (n k : ℕ) (r : Turning) (d : Vector) (p : Point) → n ≤ k → stops_of (turned_of n r.step d) (turned_of (suc n) r.step d) r.toward ≡ true → turns_of k r d p ≡ turns_of n r d p
unfolding turns_of turned_of
count_enough zero zero r d p h e = refl
count_enough zero (suc k) r d p h e = rw (e, turns_of) refl
count_enough (suc n) zero r d p h e = absurd (omega (arith, h))
count_enough (suc n) (suc k) r d p h e = λ i. elim (stops_of d (rotated_of r.step d) r.toward) [
  | true ↦ edge_of p r.to
  | false ↦ edge_of p (scaled_of r.centre r.radius (rotated_of r.step d)) ++ count_enough n k r (rotated_of r.step d) (scaled_of r.centre r.radius (rotated_of r.step d)) (omega (arith, h)) e i
]

-- no grade needs more than the 1,536
pub rotations_most : (g : ℕ) → 1 ≤ g → g ≤ 8 → 4 * quarter_of (step_of g) ≤ 1536
rotations_most g h k = omega (arith, (steps g h k).few)

pub no_arc_counted : NoArcCounted
unfolding swept_of swept_within rotations_of
no_arc_counted g k c r p q h u l =
    let s = arc_stops g (from_to c p) (from_to c q) h u in
    let arc : Turning = record { step = step_of g; centre = c; radius = r; to = q; toward = direction_of (from_to c q) } in
    count_enough s.turns k arc (direction_of (from_to c p)) p (omega (arith, s.few, l)) s.stops
    ∙ sym (count_enough s.turns 1536 arc (direction_of (from_to c p)) p (omega (arith, s.few, rotations_most g h u)) s.stops)
