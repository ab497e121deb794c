-- Pairs of signed numbers whose squares add up to at most a square: their sums, products and multiples, and what divisions leave. Assumes nothing.
use mathlib.Core.Path.{◌≡◌, refl}
use Prim.Native.Nat.{ℕ, suc, ◌+◌, ◌*◌, ◌%◌, ◌^◌, ◌≤◌, ◌<◌}
use native.Mathlib.Nat.{le_trans, mul-le-mul, mul-le-mul_right, le_of_mul-le-mul_right, le_of_lt, mul_comm, mul-add, add-mul, mul_assoc, mul_left_comm, mod-lt}
use native.Mathlib.Omega.{arith}
use lib.IntN.{ℤ, pos, negsuc, neg_ℤ, nat_abs, ◌+ℤ◌, ◌-ℤ◌, ◌*ℤ◌}
use lib.Signed.{rem_z}
use Rattle.whole.proofs.Sizes.{abs_mul, abs_add, abs_neg}
use Rattle.whole.proofs.Squares.{square_most, square_le, cauchy, rotated_sizes}

-- the vector of the parts x and y is at most a long
pub record Most (a : ℕ) (x y : ℤ) : Type 0 where
  pub most : nat_abs x * nat_abs x + nat_abs y * nat_abs y ≤ a * a

-- ---- natural numbers

pub square_sum : (a b : ℕ) → (a + b) * (a + b) ≡ a * a + b * b + 2 * (a * b)
square_sum a b = simp (mul-add, add-mul, mul_comm) (omega arith)

square_product : (a b : ℕ) → a * b * (a * b) ≡ a * a * (b * b)
square_product a b = simp (mul_assoc, mul_left_comm) refl

product_most : (x y z w a b : ℕ) → x * x + y * y ≤ a * a → z * z + w * w ≤ b * b → x * z + y * w ≤ a * b
product_most x y z w a b h k = square_le (x * z + y * w) (a * b) (rw (square_product a b) (le_trans (cauchy x y z w) (mul-le-mul h k)))

-- the triangle's inequality, where only the second pair is bounded in the sum
triangle : (x y z w a b : ℕ) → x * x + y * y ≤ a * a → z * z + w * w ≤ b * b
    → (x + z) * (x + z) + (y + w) * (y + w) ≤ x * x + y * y + b * b + 2 * (a * b)
triangle x y z w a b h k = omega (arith, square_sum x z, square_sum y w, product_most x y z w a b h k)

-- ---- sums

pub sum_most : {a b : ℕ} (x y z w : ℤ) → Most a x y → Most b z w
    → nat_abs (x +ℤ z) * nat_abs (x +ℤ z) + nat_abs (y +ℤ w) * nat_abs (y +ℤ w) ≤ nat_abs x * nat_abs x + nat_abs y * nat_abs y + b * b + 2 * (a * b)
sum_most {a} {b} x y z w h k =
    omega (arith, square_most (abs_add x z), square_most (abs_add y w), triangle (nat_abs x) (nat_abs y) (nat_abs z) (nat_abs w) a b h.most k.most)

pub most_add : {a b : ℕ} {x y z w : ℤ} → Most a x y → Most b z w → Most (a + b) (x +ℤ z) (y +ℤ w)
most_add {a} {b} {x} {y} {z} {w} h k = record { most = omega (arith, sum_most x y z w h k, h.most, square_sum a b) }

pub most_neg : {a : ℕ} {x y : ℤ} → Most a x y → Most a (neg_ℤ x) (neg_ℤ y)
most_neg {a} {x} {y} h = record { most = rw (abs_neg x, abs_neg y) h.most }

pub most_sub : {a b : ℕ} {x y z w : ℤ} → Most a x y → Most b z w → Most (a + b) (x -ℤ z) (y -ℤ w)
most_sub h k = most_add h (most_neg k)

pub most_more : {a b : ℕ} {x y : ℤ} → a ≤ b → Most a x y → Most b x y
most_more h k = record { most = le_trans k.most (square_most h) }

pub most_same : {a : ℕ} {x y z w : ℤ} → x ≡ z → y ≡ w → Most a z w → Most a x y
most_same e f h = rw (e, f) h

-- ---- products and multiples

pub most_product : {a b : ℕ} (c s x y : ℤ) → Most a c s → Most b x y → Most (a * b) (c *ℤ x -ℤ s *ℤ y) (s *ℤ x +ℤ c *ℤ y)
most_product {a} {b} c s x y h k = record { most = rw (square_product a b, rotated_sizes c s x y) (mul-le-mul h.most k.most) }

-- a long factor makes the product long
pub product_far : (l b : ℕ) (c s x y : ℤ) → l * l ≤ nat_abs x * nat_abs x + nat_abs y * nat_abs y → Most b (c *ℤ x -ℤ s *ℤ y) (s *ℤ x +ℤ c *ℤ y) → nat_abs s * l ≤ b
product_far l b c s x y h k =
    let m : nat_abs s * nat_abs s ≤ nat_abs c * nat_abs c + nat_abs s * nat_abs s = omega arith in
    square_le (nat_abs s * l) b (rw (square_product (nat_abs s) l) (le_trans (mul-le-mul m h) (rw (rotated_sizes c s x y) at k.most)))

size_scaled : (x : ℤ) (s : ℕ) → nat_abs (x *ℤ pos s) * nat_abs (x *ℤ pos s) ≡ nat_abs x * nat_abs x * (s * s)
size_scaled x s = rw (abs_mul x (pos s)) (square_product (nat_abs x) s)

pub multiple : (x y : ℤ) (s : ℕ) → nat_abs (x *ℤ pos s) * nat_abs (x *ℤ pos s) + nat_abs (y *ℤ pos s) * nat_abs (y *ℤ pos s)
    ≡ (nat_abs x * nat_abs x + nat_abs y * nat_abs y) * (s * s)
multiple x y s = omega (arith, size_scaled x s, size_scaled y s, add-mul (nat_abs x * nat_abs x) (nat_abs y * nat_abs y) (s * s))

pub most_scaled : {a : ℕ} (s : ℕ) (x y : ℤ) → Most a x y → Most (a * s) (x *ℤ pos s) (y *ℤ pos s)
most_scaled {a} s x y h = record { most = rw (multiple x y s, square_product a s) (mul-le-mul_right (s * s) h.most) }

pub most_shrunk : (a s : ℕ) (x y : ℤ) → 0 < s → Most (a * s) (x *ℤ pos s) (y *ℤ pos s) → Most a x y
most_shrunk a s x y z h =
    let k : (nat_abs x * nat_abs x + nat_abs y * nat_abs y) * (s * s) ≤ a * a * (s * s) = rw (multiple x y s, square_product a s) at h.most in
    record { most = le_of_mul-le-mul_right k (mul-le-mul z z) }

-- ---- the parts

pub most_first : {a : ℕ} {x y : ℤ} → Most a x y → nat_abs x ≤ a
most_first {a} {x} {y} h = square_le (nat_abs x) a (omega (arith, h.most))

pub most_second : {a : ℕ} {x y : ℤ} → Most a x y → nat_abs y ≤ a
most_second {a} {x} {y} h = square_le (nat_abs y) a (omega (arith, h.most))

pub most_turned : {a : ℕ} {x y : ℤ} → Most a x y → Most a y x
most_turned h = record { most = omega (arith, h.most) }

pub most_parts : (x y : ℤ) → Most (nat_abs x + nat_abs y) x y
most_parts x y = record { most = omega (arith, square_sum (nat_abs x) (nat_abs y)) }

-- ---- what divisions leave

pub remainder_below : (z : ℤ) (s : ℕ) → 0 < s → nat_abs (rem_z z (pos s)) < s
remainder_below (pos n) s h = mod-lt n h
remainder_below (negsuc n) s h = rw (abs_neg (pos (suc n % s))) (mod-lt (suc n) h)

remainder_square : (z : ℤ) → nat_abs (rem_z z (pos (2 ^ 30))) * nat_abs (rem_z z (pos (2 ^ 30))) ≤ 2 ^ 60
remainder_square z = square_most (le_of_lt (remainder_below z (2 ^ 30) (omega arith)))

-- twice the square of 2 ^ 30 is below the square of half as much again
pub remainders_most : (x y : ℤ) → Most (3 * 2 ^ 29) (rem_z x (pos (2 ^ 30))) (rem_z y (pos (2 ^ 30)))
remainders_most x y = record { most = omega (arith, remainder_square x, remainder_square y) }
