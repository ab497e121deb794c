-- A direction's component is the only number that its rule allows; a direction is no longer than 2^30 and little shorter; and a turn by one lengthens nothing.
-- Assumes nothing.
use mathlib.Core.Path.{◌≡◌, refl}
use mathlib.Core.Bool.{Bool, true}
use Prim.Native.Nat.{ℕ, zero, suc, ◌+◌, ◌-◌, ◌*◌, ◌/◌, ◌%◌, ◌^◌, ◌≤◌, ◌<◌}
use native.Mathlib.Nat.{le_trans, add-mul, mul_comm, mul_assoc, mul_left_comm, mul-le-mul, mul-le-mul_right, le_of_mul-le-mul_right, lt_of_mul-lt-mul_right, mod-eq_of_lt, le-div_iff_mul-le, div-lt_iff_lt-mul}
use native.Mathlib.Omega.{arith}
use lib.IntN.{ℤ, pos, nat_abs, ◌+ℤ◌, ◌-ℤ◌, ◌*ℤ◌}
use lib.Pow.{pow_pos}
use lib.Signed.{lt_z, quot_z}
use Rattle.whole.proofs.Squares.{square_next, square_le, square_lt, four_power, scaled_square, rotated_sizes}
use Rattle.whole.proofs.Division.{quot_most}
use Rattle.number.specs.MulDiv.{with_sign, mul_div_of}
use Rattle.number.proofs.Roots.{root_is, root_is_largest, root_only}
use Rattle.number.proofs.Nearest.{mul-div_by, nearest_most, sign_size}
use Rattle.plane.specs.Vectors.{Short, square_of}
use Rattle.plane.specs.Directions.{part_of, component_of, ComponentIsLargest, direction_of, step_of, rotated_of, UnitLong}
use Rattle.plane.specs.Swings.{Settles, Measures}
use Rattle.plane.proofs.Products.{bits, back, short_fits}
use mir.Syntax.{w64}
use mir.Val.{SFits}
use Rattle.plane.specs.declared.Vector.{Vector}
use Rattle.plane.specs.declared.direction.Length.{Length}

-- ---- a component

-- it is the one n with n * n * s ≤ c * c * 2 ^ 60 of which n + 1 has that no more
pub part_only : (c s n : ℕ) → 0 < s → n * n * s ≤ c * c * 2 ^ 60 → c * c * 2 ^ 60 < (n + 1) * (n + 1) * s → n ≡ part_of c s
unfolding part_of
part_only c s n h l u =
    root_only (c * c * 2 ^ 60 / s) n
    (record {
      low = (le-div_iff_mul-le {k = s} {x = n * n} {y = c * c * 2 ^ 60} h).1 l;
      high = (div-lt_iff_lt-mul {k = s} {x = c * c * 2 ^ 60} {y = (n + 1) * (n + 1)} h).1 u;
    })

pub part_low : (c s : ℕ) → 0 < s → part_of c s * part_of c s * s ≤ c * c * 2 ^ 60
unfolding part_of
part_low c s h = (le-div_iff_mul-le {k = s} {x = part_of c s * part_of c s} {y = c * c * 2 ^ 60} h).0 (root_is (c * c * 2 ^ 60 / s)).low

part_high : (c s : ℕ) → 0 < s → (n : ℕ) → n * n * s ≤ c * c * 2 ^ 60 → n ≤ part_of c s
unfolding part_of
part_high c s h n l = (root_is_largest (c * c * 2 ^ 60 / s)).1 n ((le-div_iff_mul-le {k = s} {x = n * n} {y = c * c * 2 ^ 60} h).1 l)

part_next : (c s : ℕ) → 0 < s → c * c * 2 ^ 60 < (part_of c s + 1) * (part_of c s + 1) * s
unfolding part_of
part_next c s h = (div-lt_iff_lt-mul {k = s} {x = c * c * 2 ^ 60} {y = (part_of c s + 1) * (part_of c s + 1)} h).0 (root_is (c * c * 2 ^ 60 / s)).high

-- and at most 2 ^ 30
pub part_most : (c s n : ℕ) → 0 < s → c * c ≤ s → n * n * s ≤ c * c * 2 ^ 60 → n ≤ 2 ^ 30
part_most c s n h k l =
    let m : n * n * s ≤ 2 ^ 60 * s = omega arith in
    square_le n (2 ^ 30) (omega (arith, le_of_mul-le-mul_right m h))

-- as found where c is lifted by k and s by 2 * k
module _ (c s k : ℕ) (h : c * c ≤ s) (f : s * 4 ^ k < 2 ^ 64) where
  below : c * 2 ^ k < 2 ^ 32
  below = square_lt _ (2 ^ 32) (omega (arith, scaled_square c k, mul-le-mul_right (4 ^ k) h))

  lifted_c : c * 2 ^ k % 2 ^ 64 ≡ c * 2 ^ k
  lifted_c = mod-eq_of_lt (omega (arith, below))

  lifted_s : s * 2 ^ (2 * k) % 2 ^ 64 ≡ s * 4 ^ k
  lifted_s = rw (← four_power k) (mod-eq_of_lt f)

  pub lifted_below : c * 2 ^ k % 2 ^ 64 < 2 ^ 32
  lifted_below = rw lifted_c below

  lifted_square : c * 2 ^ k * (c * 2 ^ k) * 2 ^ 60 ≡ c * c * 2 ^ 60 * 4 ^ k
  lifted_square = rw (scaled_square c k) (simp (mul_assoc, mul_comm) refl)

  pub settled_part : (n : ℕ) {x : Bool} → 0 < s → Settles n (c * 2 ^ k % 2 ^ 64) (s * 2 ^ (2 * k) % 2 ^ 64) x → x ≡ true → n ≡ part_of c s
  settled_part n z e t =
      let l : n * n * (s * 4 ^ k) ≤ c * 2 ^ k * (c * 2 ^ k) * 2 ^ 60 = rw (lifted_c, lifted_s) at (e.low t) in
      let u : c * 2 ^ k * (c * 2 ^ k) * 2 ^ 60 < (n + 1) * (n + 1) * (s * 4 ^ k) = rw (lifted_c, lifted_s) at (e.high t) in
      part_only c s n z
      (le_of_mul-le-mul_right {k = 4 ^ k} (omega (arith, l, lifted_square, mul_assoc (n * n) s (4 ^ k))) (rw (four_power k) (pow_pos (2 * k))))
      (lt_of_mul-lt-mul_right (4 ^ k) (omega (arith, u, lifted_square, mul_assoc ((n + 1) * (n + 1)) s (4 ^ k))))

-- ---- a direction

component_size : (c : ℤ) (s : ℕ) → nat_abs (component_of c s) ≡ part_of (nat_abs c) s
unfolding component_of
component_size c s = sign_size (lt_z c (pos 0)) (part_of (nat_abs c) s)

pub component_is_largest : ComponentIsLargest
component_is_largest c s h = rw (component_size c s) (part_low (nat_abs c) s h, part_high (nat_abs c) s h)

-- the squares of its components add to at most 2 ^ 60
pub direction_unit : (v : Vector) → 0 < square_of v → UnitLong (direction_of v)
unfolding square_of direction_of
direction_unit v h =
    let s = square_of v in
    let m = part_of (nat_abs v.x) s in
    let n = part_of (nat_abs v.y) s in
    let k : m * m + n * n ≤ 2 ^ 60 = le_of_mul-le-mul_right {m = m * m + n * n} {n = 2 ^ 60} {k = s} (omega (arith, add-mul (m * m) (n * n) s, part_low (nat_abs v.x) s h, part_low (nat_abs v.y) s h)) h in
    record { length = rw (component_size v.x s, component_size v.y s) k }

-- and to little less: m and n are the sizes of its components, s is x * x + y * y
parts_long : (x y m n s : ℕ) → s ≡ x * x + y * y → x * x * 2 ^ 60 < (m + 1) * (m + 1) * s → y * y * 2 ^ 60 < (n + 1) * (n + 1) * s → m ≤ 2 ^ 30 → n ≤ 2 ^ 30
    → 2 ^ 60 ≤ m * m + n * n + (2 ^ 32 + 1)
parts_long x y m n s e f g a b =
    let k : 2 ^ 60 * s < ((m + 1) * (m + 1) + (n + 1) * (n + 1)) * s = omega (arith, e, f, g, add-mul ((m + 1) * (m + 1)) ((n + 1) * (n + 1)) s) in
    omega (arith, a, b, lt_of_mul-lt-mul_right s k, square_next m, square_next n)

pub direction_long : (v : Vector) → 0 < square_of v → 2 ^ 60 ≤ square_of (direction_of v) + (2 ^ 32 + 1)
unfolding square_of direction_of
direction_long v h =
    let x = nat_abs v.x in
    let y = nat_abs v.y in
    let s = square_of v in
    rw (component_size v.x s, component_size v.y s)
    (parts_long x y (part_of x s) (part_of y s) s refl (part_next x s h) (part_next y s h)
    (part_most x s (part_of x s) h (omega arith) (part_low x s h)) (part_most y s (part_of y s) h (omega arith) (part_low y s h)))

-- what its parts ask for, of the size m of a coordinate
module _ (v : Vector) (l : Length) (h : Short v) (k : 0 < square_of v) (e : Measures v l) where
  abbrev Asks : ℕ → Type 0
  Asks m = (m ≤ 2 ^ 30) × (m * m ≤ l.square) × (0 < l.square) × (l.level ≤ 31) × (l.square * 4 ^ l.level < 2 ^ 64)

  pub asks_x : {m : ℕ} → m ≡ nat_abs v.x → Asks m
  unfolding square_of
  asks_x f = rw (f, e.square) (h.x.size, omega arith, k, e.level, e.fits)

  pub asks_y : {m : ℕ} → m ≡ nat_abs v.y → Asks m
  unfolding square_of
  asks_y f = rw (f, e.square) (h.y.size, omega arith, k, e.level, e.fits)

-- from what the code has computed: m and n are the coordinates' sizes, s is the squared length, p and q are the components' sizes, a and b the
-- components
pub direction_back : (v : Vector) {m n s p q : ℕ} {a b : ℤ} → Short v → m ≡ nat_abs v.x → n ≡ nat_abs v.y → s ≡ square_of v
    → p ≡ part_of m s → q ≡ part_of n s → a ≡ with_sign (lt_z (bits v.x) (pos 0)) p → b ≡ with_sign (lt_z (bits v.y) (pos 0)) q
    → SFits w64 a → SFits w64 b → record { x = bits a; y = bits b } ≡ direction_of v
unfolding direction_of component_of
direction_back v {m} {n} {s} {p} {q} {a} {b} h e f z g i j k fa fb =
    let p' : p ≡ part_of (nat_abs v.x) (square_of v) = rw (z, e) at g in
    let q' : q ≡ part_of (nat_abs v.y) (square_of v) = rw (z, f) at i in
    let a' : a ≡ with_sign (lt_z v.x (pos 0)) p = rw (back (short_fits h.x)) at j in
    let b' : b ≡ with_sign (lt_z v.y (pos 0)) q = rw (back (short_fits h.y)) at k in
    rw (back fa, back fb, a', b', p', q')

-- so each is at most 2 ^ 30
pub unit_short : {v : Vector} → UnitLong v → Short v
unfolding square_of
unit_short {v} h = record {
  x = record { size = square_le (nat_abs v.x) (2 ^ 30) (omega (arith, h.length)) };
  y = record { size = square_le (nat_abs v.y) (2 ^ 30) (omega (arith, h.length)) };
}

-- ---- the step of a grade

square_some : (m n : ℕ) → 0 < n → 0 < m * m + n * n
square_some m zero h = absurd (omega arith)
square_some m (suc n) h = omega (arith, mul-le-mul {n₁ = 1} {m₁ = 1} {n₂ = suc n} {m₂ = suc n} (omega arith) (omega arith))

pub step_unit : (k : ℕ) {t : Vector} → t ≡ step_of k → UnitLong t
unfolding step_of square_of
step_unit k e = rw e (direction_unit (record { x = pos (4 ^ k - 1); y = pos (2 ^ (k + 1)) }) (square_some (4 ^ k - 1) (2 ^ (k + 1)) (pow_pos (k + 1))))

pub step_long : (k : ℕ) {t : Vector} → t ≡ step_of k → 2 ^ 60 ≤ square_of t + (2 ^ 32 + 1)
unfolding step_of square_of
step_long k e = rw e (direction_long (record { x = pos (4 ^ k - 1); y = pos (2 ^ (k + 1)) }) (square_some (4 ^ k - 1) (2 ^ (k + 1)) (pow_pos (k + 1))))

-- ---- a turn

quot_square : (z : ℤ) → nat_abs (quot_z z (pos (2 ^ 30))) * nat_abs (quot_z z (pos (2 ^ 30))) * 2 ^ 60 ≤ nat_abs z * nat_abs z
quot_square z =
    let q = nat_abs (quot_z z (pos (2 ^ 30))) in
    let e : q * q * 2 ^ 60 ≡ q * 2 ^ 30 * (q * 2 ^ 30) = simp (mul_assoc, mul_comm, mul_left_comm) (omega arith) in
    rw e (mul-le-mul (quot_most z (2 ^ 30)) (quot_most z (2 ^ 30)))

-- turned by a step that is no longer than 2 ^ 30, nothing is longer than it was
pub turned_no_longer : (t v : Vector) → UnitLong t → square_of (rotated_of t v) ≤ square_of v
unfolding square_of rotated_of
turned_no_longer t v h =
    let a = nat_abs (quot_z (t.x *ℤ v.x -ℤ t.y *ℤ v.y) (pos (2 ^ 30))) in
    let b = nat_abs (quot_z (t.y *ℤ v.x +ℤ t.x *ℤ v.y) (pos (2 ^ 30))) in
    let k : square_of t * square_of v ≤ 2 ^ 60 * square_of v = mul-le-mul_right (square_of v) h.length in
    le_of_mul-le-mul_right {m = a * a + b * b} {n = square_of v} {k = 2 ^ 60}
    (omega (arith, add-mul (a * a) (b * b) (2 ^ 60), quot_square (t.x *ℤ v.x -ℤ t.y *ℤ v.y), quot_square (t.y *ℤ v.x +ℤ t.x *ℤ v.y), rotated_sizes t.x t.y v.x v.y, k))
    (omega arith)

pub turned_unit : {t v : Vector} → UnitLong t → UnitLong v → UnitLong (rotated_of t v)
turned_unit {t} {v} h k = record { length = le_trans (turned_no_longer t v h) k.length }

-- ---- an offset

-- a component scaled by a radius is at most the radius
pub scaled_most : (d : ℤ) (r : ℕ) → nat_abs d ≤ 2 ^ 30 → nat_abs (mul_div_of d (pos r) (2 ^ 30)) ≤ r
scaled_most d r h =
    rw (mul-div_by d r (2 ^ 30) (omega arith), sign_size (lt_z d (pos 0))) (nearest_most (nat_abs d * r) (2 ^ 30) r (omega arith) (omega (arith, mul-le-mul_right r h, mul_comm r (2 ^ 30))))
