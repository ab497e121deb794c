-- What the tests of leaps tell: that an arc goes on, that it ends, that a direction is long and that each rotation moves its point. Assumes nothing.
use mathlib.Core.Path.{◌≡◌, refl, sym, ap, ◌∙◌}
use mathlib.Core.Bool.{Bool, true, false}
use Prim.Native.Nat.{ℕ, zero, suc, ◌+◌, ◌*◌, ◌/◌, ◌^◌, ◌≤◌, ◌<◌}
use native.Mathlib.Nat.{add-zero, zero-mul, suc-mul, lt_of_not-le, mul-le-mul, mul-le-mul_right}
use native.Mathlib.Decide.{dec_le}
use native.Mathlib.Omega.{arith}
use lib.IntN.{ℤ, pos, neg_ℤ, nat_abs, ◌-ℤ◌}
use lib.Dec.{leb, ltb}
use lib.Signed.{le_z, ◌≤ℤ◌}
use borrow.Author.Tests.{leb-true, ltb-true}
use mir.Syntax.{w64}
use mir.Val.{SFits}
use Rattle.whole.specs.Sizes.{Size}
use Rattle.whole.proofs.Signed.{up, down, add_balance, up-neg, down-neg, abs_is, le_from, le_to}
use Rattle.whole.proofs.Sizes.{abs_sub, size_sub, size_fits}
use Rattle.whole.proofs.Squares.{square_most, square_next, square_double}
use Rattle.whole.proofs.Order.{le_true, le_false}
use Rattle.plane.specs.Vectors.{same_point, square_of, cross_of, dot_of}
use Rattle.plane.specs.Directions.{rotated_of, UnitLong}
use Rattle.plane.specs.OffBy.{less_of}
use Rattle.plane.proofs.Products.{bits, back, short_fits}
use Rattle.plane.proofs.Directions.{unit_short}
use Rattle.plane.specs.declared.Vector.{Vector}
use Rattle.turning.specs.Arcs.{near_of, stops_of}
use Rattle.turning.specs.Bounds.{Radius}
use Rattle.leaps.specs.Counts.{place_of}
use Rattle.leaps.specs.Leaps.{sway_of, Ahead, Behind, Clears, Ends, Long, Moves}
use Rattle.turning.specs.declared.Turning.{Turning}
use Rattle.turning.proofs.Limits.{radius_natural, radius_back}
use Rattle.leaps.proofs.Distinct.{and_false, apart-x, apart-y}
use Rattle.plane.proofs.Leeway.{size_flipped, turned_within, sway_far, cross_within, dot_within, long_within}

-- ---- what a product tells of those near it

le_holds : (a b : ℤ) → a ≤ℤ b → le_z a b ≡ true
le_holds a b h = go (le_z a b) refl
  where
    go : (x : Bool) → le_z a b ≡ x → x ≡ true
    go true e = refl
    go false e = absurd (omega (arith, le_false a b e, le_to h))

le_fails : (a b : ℤ) → up b + down a < up a + down b → le_z a b ≡ false
le_fails a b h = go (le_z a b) refl
  where
    go : (x : Bool) → le_z a b ≡ x → x ≡ false
    go true e = absurd (omega (arith, le_true a b e, h))
    go false e = refl

pub near_ahead : (a b : ℤ) (k m : ℕ) → nat_abs (a -ℤ b) ≤ k → pos (k + m) ≤ℤ b → pos m ≤ℤ a
near_ahead a b k m h l =
    le_from (pos m) a (omega (arith, le_to l, h, abs_is (a -ℤ b), add_balance a (neg_ℤ b), up-neg b, down-neg b))

pub near_behind : (a b : ℤ) (k m : ℕ) → nat_abs (a -ℤ b) ≤ k → b ≤ℤ neg_ℤ (pos (k + m)) → a ≤ℤ neg_ℤ (pos m)
near_behind a b k m h l =
    le_from a (neg_ℤ (pos m))
    (omega (
      arith,
      le_to l,
      h,
      abs_is (a -ℤ b),
      add_balance a (neg_ℤ b),
      up-neg b,
      down-neg b,
      up-neg (pos m),
      down-neg (pos m),
      up-neg (pos (k + m)),
      down-neg (pos (k + m)),
    ))

-- ---- whether an arc stops

module _ (v n e : Vector) where
  not_past : pos 1 ≤ℤ cross_of n e → stops_of v n e ≡ false
  unfolding stops_of
  not_past h = rw (le_fails (cross_of n e) (pos 0) (omega (arith, le_to h)))

  not_before : cross_of v e ≤ℤ neg_ℤ (pos 1) → stops_of v n e ≡ false
  unfolding stops_of near_of
  not_before h = rw (le_fails (pos 0) (cross_of v e) (omega (arith, le_to h))) (and_false (le_z (cross_of n e) (pos 0)))

  not_behind : dot_of v e ≤ℤ neg_ℤ (pos 1) → stops_of v n e ≡ false
  unfolding stops_of near_of
  not_behind h = rw (le_fails (pos 0) (dot_of v e) (omega (arith, le_to h)), and_false (le_z (pos 0) (cross_of v e))) (and_false (le_z (cross_of n e) (pos 0)))

  stops_here : cross_of n e ≤ℤ neg_ℤ (pos 0) → pos 0 ≤ℤ cross_of v e → pos 0 ≤ℤ dot_of v e → stops_of v n e ≡ true
  unfolding stops_of near_of
  stops_here h k l = rw (le_holds (cross_of n e) (pos 0) h, le_holds (pos 0) (cross_of v e) k, le_holds (pos 0) (dot_of v e) l)

-- w is a product of d and e, and x the test of it
module _ (d e : Vector) (reach : ℕ) {x : Bool} {w : ℤ} (u : UnitLong e) where
  pub clear_ahead : {y : Bool} → w ≡ cross_of d e → Ahead w (reach * 2 ^ 30 + 1) x → x ≡ true → Clears d e reach y
  clear_ahead f h i = record {
    clears = λ _ v n hv hn. not_past v n e (near_ahead (cross_of n e) (cross_of d e) (reach * 2 ^ 30) 1 (cross_within n d e u hn) (rw f at (h.ahead i)));
  }

  pub clear_behind : {y : Bool} → w ≡ cross_of d e → Behind w (reach * 2 ^ 30 + 1) x → x ≡ true → Clears d e reach y
  clear_behind f h i = record {
    clears = λ _ v n hv hn. not_before v n e (near_behind (cross_of v e) (cross_of d e) (reach * 2 ^ 30) 1 (cross_within v d e u hv) (rw f at (h.behind i)));
  }

  pub clear_back : w ≡ dot_of d e → Behind w (reach * 2 ^ 30 + 1) x → Clears d e reach x
  clear_back f h = record {
    clears = λ i v n hv hn. not_behind v n e (near_behind (dot_of v e) (dot_of d e) (reach * 2 ^ 30) 1 (dot_within v d e u hv) (rw f at (h.behind i)));
  }

-- w is the cross product of the next direction and e, y that of d and e, z their dot product
pub ends_told : (t e d : Vector) (off : ℕ) {p q x : Bool} {n : Vector} {w y z : ℤ} → UnitLong t → UnitLong e → n ≡ rotated_of t d
    → w ≡ cross_of n e → Behind w ((off + 3) * 2 ^ 30) p → p ≡ true → y ≡ cross_of d e → Ahead y (off * 2 ^ 30) q → q ≡ true
    → z ≡ dot_of d e → Ahead z (off * 2 ^ 30) x → Ends t e d off x
ends_told t e d off ht he en ew h i ey k j ez l = record {
  ends = λ m v hv.
      let past = (off + 3) * 2 ^ 30 in
      let least = off * 2 ^ 30 in
      stops_here v (rotated_of t v) e
      (near_behind (cross_of (rotated_of t v) e) (cross_of (rotated_of t d) e) past 0 (cross_within (rotated_of t v) (rotated_of t d) e he (turned_within t v d ht hv)) (rw (add-zero past) (rw (ew, en) at (h.behind i))))
      (near_ahead (cross_of v e) (cross_of d e) least 0 (cross_within v d e he hv) (rw (add-zero least) (rw ey at (k.ahead j))))
      (near_ahead (dot_of v e) (dot_of d e) least 0 (dot_within v d e he hv) (rw (add-zero least) (rw ez at (l.ahead m))));
}

-- n is the squared length
pub long_told : (d : Vector) (off : ℕ) {n : ℕ} → n ≡ square_of d → Long d off (leb ((7 * 2 ^ 27 + off) * (7 * 2 ^ 27 + off)) n)
long_told d off {n} e = record { long = λ i v h. long_within (7 * 2 ^ 27) v d h (rw e at (leb-true _ n i)) }

-- ---- whether a rotation moves a point: l is how far it moves a component at least

-- of a vector that is 2 * l long, one component is l or more
one_part : (m n l : ℕ) → 2 * l * (2 * l) ≤ m * m + n * n → (l ≤ m → ⊥) → l ≤ n
one_part m n l h f = go (dec_le l n)
  where
    go : Dec (l ≤ n) → l ≤ n
    go (yes k) = k
    go (no g) =
        let i : m + 1 ≤ l = omega (arith, lt_of_not-le f) in
        let j : n + 1 ≤ l = omega (arith, lt_of_not-le g) in
        absurd (omega (arith, square_most i, square_most j, square_next m, square_next n, square_double l, h))

pub moved_apart : (r : Turning) (v : Vector) (l : ℕ) → Radius r.radius → UnitLong r.step → UnitLong v → 2 ^ 30 < l * nat_abs r.radius → 16 * l + 16 ≤ 7 * nat_abs r.step.y
    → 7 * 2 ^ 27 * (7 * 2 ^ 27) ≤ square_of v → same_point (place_of r v) (place_of r (rotated_of r.step v)) ≡ false
unfolding square_of less_of
moved_apart r v l hr ht hv f k h = go (dec_le l (nat_abs (v.x -ℤ w.x)))
  where
    w : Vector
    w = rotated_of r.step v

    far : 2 * l * (2 * l) ≤ nat_abs (v.x -ℤ w.x) * nat_abs (v.x -ℤ w.x) + nat_abs (v.y -ℤ w.y) * nat_abs (v.y -ℤ w.y)
    far = rw (size_flipped v.x w.x, size_flipped v.y w.y) (sway_far (2 * l) (7 * 2 ^ 27) r.step v h (omega (arith, k)))

    go : Dec (l ≤ nat_abs (v.x -ℤ w.x)) → same_point (place_of r v) (place_of r w) ≡ false
    go (yes i) = apart-x r.centre v w r.radius (nat_abs r.radius) (sym (radius_natural hr)) (omega (arith, f, mul-le-mul_right (nat_abs r.radius) i))
    go (no g) = apart-y r.centre v w r.radius (nat_abs r.radius) (sym (radius_natural hr))
        (omega (arith, f, mul-le-mul_right (nat_abs r.radius) (one_part (nat_abs (v.x -ℤ w.x)) (nat_abs (v.y -ℤ w.y)) l far g)))

-- ---- from what the code has computed: w is z, m its size

-- 2 ^ 30 less a component
pub lack_fits : {a : ℤ} → Size (2 ^ 30) a → SFits w64 (pos (2 ^ 30) -ℤ a)
lack_fits h = size_fits (2 ^ 31) w64 _ (size_sub (2 ^ 30) (2 ^ 30) (pos (2 ^ 30)) _ (record { size = omega arith }) h) tt

-- m and n are the sizes of what a step lacks and of its second component
pub sway_told : (t : Vector) {m n : ℕ} {a : ℤ} → UnitLong t → a ≡ pos (2 ^ 30) -ℤ bits t.x → m ≡ nat_abs (bits a) → n ≡ nat_abs (bits t.y) → m + n + 2 ≡ sway_of t
unfolding sway_of
sway_told t {m} {n} {a} h e f g =
    let s = unit_short h in
    let e' : a ≡ pos (2 ^ 30) -ℤ t.x = rw (back (short_fits s.x)) at e in
    let f' : m ≡ nat_abs (pos (2 ^ 30) -ℤ t.x) = f ∙ ap nat_abs (ap bits e' ∙ back (lack_fits s.x)) in
    let g' : n ≡ nat_abs t.y = g ∙ ap nat_abs (back (short_fits s.y)) in
    rw (f', g') refl

pub sway_most : (t : Vector) → UnitLong t → sway_of t ≤ 3 * 2 ^ 30 + 2
unfolding sway_of
sway_most t h =
    let s = unit_short h in
    omega (arith, abs_sub (pos (2 ^ 30)) t.x, s.x.size, s.y.size)

-- s and k are the sizes of the radius and of the step's second component
pub moves_told : (r : Turning) {s k : ℕ} → Radius r.radius → UnitLong r.step → sway_of r.step ≤ 2 ^ 27 → s ≡ nat_abs (bits r.radius) → k ≡ nat_abs (bits r.step.y)
    → Moves r (ltb (2 ^ 30 + s) (7 * k / 16 * s))
moves_told r {s} {k} hr ht fine e f = record { fine = λ _. fine; moves = λ i v hv h. go v hv h (7 * k / 16) (omega arith) (ltb-true _ _ i) }
  where
    go : (v : Vector) → UnitLong v → 7 * 2 ^ 27 * (7 * 2 ^ 27) ≤ square_of v → (q : ℕ) → 16 * q ≤ 7 * k → 2 ^ 30 + s < q * s
        → same_point (place_of r v) (place_of r (rotated_of r.step v)) ≡ false
    go v hv h zero m n = absurd (omega (arith, zero-mul s))
    go v hv h (suc l) m n =
        let s' : s ≡ nat_abs r.radius = e ∙ ap nat_abs (radius_back hr) in
        let k' : k ≡ nat_abs r.step.y = f ∙ ap nat_abs (back (short_fits (unit_short ht).y)) in
        let far : 2 ^ 30 < l * s = omega (arith, n, suc-mul l s) in
        moved_apart r v l hr ht hv (rw s' at far) (omega (arith, m, k')) h

pub step_most_lem : {t : Vector} {k : ℕ} → UnitLong t → k ≡ nat_abs (bits t.y) → k ≤ 2 ^ 30
step_most_lem h e = let s = (unit_short h).y in omega (arith, e ∙ ap nat_abs (back (short_fits s)), s.size)

pub radius_most : {r : ℤ} {s : ℕ} → Radius r → s ≡ nat_abs (bits r) → s ≤ 2 ^ 28
radius_most h e = omega (arith, e ∙ ap nat_abs (radius_back h), h.high)

pub product_most : {s k : ℕ} → s ≤ 2 ^ 28 → k ≤ 2 ^ 30 → 7 * k / 16 * s ≤ 2 ^ 57
product_most {s} {k} h i = let q : 7 * k / 16 ≤ 2 ^ 29 = omega arith in mul-le-mul {n₂ = 2 ^ 29} {m₂ = 2 ^ 28} q h
