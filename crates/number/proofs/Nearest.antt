-- Which number the nearest is, how large it can be, and the sign apart. Assumes nothing.
use Rattle.std.proofs.Common.{◌≡◌, ℕ, zero, suc, ◌+◌, ◌*◌, ◌/◌, ◌<◌, ◌≤◌, Bool, true, false, not, ltb, ℤ, pos, negsuc, neg_ℤ, nat_abs, sym, refl, suc-mul, div-lt_iff_lt-mul, add-mul, mul-le-mul, mul-le-mul_left, div-mul-le_self, le_of_mul-le-mul_right, mul_left_comm, arith, le-ltb}
use mathlib.Core.Bool.{beq}
use native.Mathlib.Nat.{div-eq_of_lt-le}
use lib.Signed.{lt_z}
use Rattle.whole.proofs.Sizes.{abs_neg}
use Rattle.whole.proofs.Squares.{square_le, square_next, cauchy}
use Rattle.number.specs.MulDiv.{with_sign, nearest_of, rounded_of, mul_div_of}

-- q is the nearest where n is within half of d of q * d, on the lower side strictly
pub nearest_is : (n d q : ℕ) → 2 * (q * d) ≤ 2 * n + d → 2 * n < 2 * (q * d) + d → q ≡ nearest_of n d
unfolding nearest_of
nearest_is n d q h k =
    sym (div-eq_of_lt-le {k = q} (2 * d) {m = 2 * n + d} (omega (arith, mul_left_comm q 2 d)) (omega (arith, mul_left_comm (q + 1) 2 d, more)))
  where
    more : (q + 1) * d ≡ q * d + d
    more = simp add-mul (omega arith)

-- of at most k times d it is at most k
pub nearest_most : (n d k : ℕ) → 0 < d → n ≤ k * d → nearest_of n d ≤ k
unfolding nearest_of
nearest_most n d k h l = omega (arith, (div-lt_iff_lt-mul {k = 2 * d} {x = 2 * n + d} {y = suc k} (omega arith)).1 (omega (arith, mul_left_comm k 2 d, suc-mul k (2 * d))))

-- ---- the sign apart

-- rounding a number that is negative, or zero
rounded_neg : (m d : ℕ) → 0 < d → rounded_of (neg_ℤ (pos m)) d ≡ neg_ℤ (pos (nearest_of m d))
unfolding rounded_of
rounded_neg zero d h = simp (sym (nearest_is 0 d 0 (omega arith) (omega arith)))
rounded_neg (suc m) d h = refl

-- whether just one of two numbers is negative, as `(a < 0) != (b < 0)` tests it
abbrev pub apart : ℤ → ℤ → Bool
apart a b = not (beq (lt_z a (pos 0)) (lt_z b (pos 0)))

never_below : (n : ℕ) → ltb n 0 ≡ false
never_below n = le-ltb n 0 (omega arith)

pub mul-div_sign : (a b : ℤ) (d : ℕ) → 0 < d → mul_div_of a b d ≡ with_sign (apart a b) (nearest_of (nat_abs a * nat_abs b) d)
unfolding rounded_of mul_div_of
mul-div_sign (pos a) (pos b) d h = simp never_below
mul-div_sign (pos a) (negsuc b) d h = simp never_below (rounded_neg (a * suc b) d h)
mul-div_sign (negsuc a) (pos b) d h = simp never_below (rounded_neg (suc a * b) d h)
mul-div_sign (negsuc a) (negsuc b) d h = refl

-- by a number that is not negative
pub mul-div_by : (a : ℤ) (r d : ℕ) → 0 < d → mul_div_of a (pos r) d ≡ with_sign (lt_z a (pos 0)) (nearest_of (nat_abs a * r) d)
unfolding rounded_of mul_div_of
mul-div_by (pos a) r d h = simp never_below
mul-div_by (negsuc a) r d h = rounded_neg (suc a * r) d h

-- the size without the sign
pub sign_size : (x : Bool) (n : ℕ) → nat_abs (with_sign x n) ≡ n
sign_size true n = abs_neg (pos n)
sign_size false n = refl

-- a number no larger than the divisor scales nothing up
pub mul-div_most : (a b : ℤ) (d : ℕ) → 0 < d → nat_abs b ≤ d → nat_abs (mul_div_of a b d) ≤ nat_abs a
mul-div_most a b d h k =
    rw (mul-div_sign a b d h, sign_size (apart a b)) (nearest_most (nat_abs a * nat_abs b) d (nat_abs a) h (mul-le-mul_left (nat_abs a) k))

-- ---- two numbers by one factor over one divisor, as the components of a contact

-- twice the nearest, times the divisor
nearest_twice : (n d : ℕ) → 2 * (nearest_of n d * d) ≤ 2 * n + d
unfolding nearest_of
nearest_twice n d = omega (arith, div-mul-le_self (2 * n + d) (2 * d), mul_left_comm ((2 * n + d) / (2 * d)) 2 d)

-- the sum of two sides is at most one and a half times the third
sides : (x y d : ℕ) → x * x + y * y ≤ d * d → 2 * (x + y) ≤ 3 * d
sides x y d h = square_le (2 * (x + y)) (3 * d) (omega (arith, cauchy 1 1 x y))

-- the square of a component
part_square : (r x q d : ℕ) → 2 * (q * d) ≤ 2 * (r * x) + d → 4 * (q * q * (d * d)) ≤ 4 * (r * r * (x * x)) + 4 * (r * (x * d)) + d * d
part_square r x q d h = omega (arith, mul-le-mul h h)

whole_square : (r x y d : ℕ) → x * x + y * y ≤ d * d → 4 * (r * r * (x * x)) + 4 * (r * (x * d)) + d * d + (4 * (r * r * (y * y)) + 4 * (r * (y * d)) + d * d) ≤ (4 * (r * r) + 6 * r + 2) * (d * d)
whole_square r x y d h = omega (arith, mul-le-mul_left (r * r) h, mul-le-mul_left (r * d) (sides x y d h))

-- of a pair no longer than the divisor, the nearest pair is shorter than one more than the factor
pub nearest_pair : (r x y d : ℕ) → 0 < d → x * x + y * y ≤ d * d → nearest_of (r * x) d * nearest_of (r * x) d + nearest_of (r * y) d * nearest_of (r * y) d < (r + 1) * (r + 1)
nearest_pair r x y d h k =
    let p = nearest_of (r * x) d in
    let q = nearest_of (r * y) d in
    let l : 4 * (p * p + q * q) * (d * d) ≤ (4 * (r * r) + 6 * r + 2) * (d * d) =
    omega (arith, part_square r x p d (nearest_twice (r * x) d), part_square r y q d (nearest_twice (r * y) d), whole_square r x y d k) in
    omega (arith, le_of_mul-le-mul_right {m = 4 * (p * p + q * q)} {n = 4 * (r * r) + 6 * r + 2} {k = d * d} l (mul-le-mul h h), square_next r)

pub mul-div_pair : (a x y : ℤ) (d : ℕ) → 0 < d → nat_abs x * nat_abs x + nat_abs y * nat_abs y ≤ d * d
    → nat_abs (mul_div_of a x d) * nat_abs (mul_div_of a x d) + nat_abs (mul_div_of a y d) * nat_abs (mul_div_of a y d) < (nat_abs a + 1) * (nat_abs a + 1)
mul-div_pair a x y d h k =
    rw (mul-div_sign a x d h, mul-div_sign a y d h, sign_size (apart a x), sign_size (apart a y)) (nearest_pair (nat_abs a) (nat_abs x) (nat_abs y) d h k)
