-- How large a sum, a product or a quotient can be, and when it fits a width. Assumes nothing.
use mathlib.Core.Path.{◌≡◌, refl, sym, ◌∙◌}
use Prim.Native.Nat.{ℕ, zero, suc, ◌+◌, ◌*◌, ◌/◌, ◌^◌, ◌≤◌, ◌<◌, zero-le}
use native.Mathlib.Nat.{mul-add, add-mul, mul-le-mul, div-le_self, lt_of_le_of_lt, le-suc, le_of_lt, le_of_suc-le-suc}
use native.Mathlib.Omega.{arith}
use lib.Dec.{T, ltb, ltb→lt}
use lib.IntN.{ℤ, pos, negsuc, neg_ℤ, nat_abs, ◌+ℤ◌, ◌-ℤ◌, ◌*ℤ◌}
use lib.Signed.{mag, quot_z}
use mir.Syntax.{Width}
use mir.Val.{SFits, hbits}
use Rattle.whole.specs.Sizes.{Size}
use Rattle.whole.proofs.Signed.{up, down, abs_is, up-mul, down-mul, add_balance}

pub abs_mul : (a b : ℤ) → nat_abs (a *ℤ b) ≡ nat_abs a * nat_abs b
abs_mul a b =
    abs_is (a *ℤ b) ∙ simp (up-mul, down-mul) (omega (arith, sym (parts a b) ∙ (λ i. sym (abs_is a) i * sym (abs_is b) i)))
  where
    parts : (a b : ℤ) → (up a + down a) * (up b + down b) ≡ up a * up b + up a * down b + (down a * up b + down a * down b)
    parts a b = simp (mul-add, add-mul) (omega arith)

pub abs_neg : (a : ℤ) → nat_abs (neg_ℤ a) ≡ nat_abs a
abs_neg (pos zero) = refl
abs_neg (pos (suc n)) = refl
abs_neg (negsuc n) = refl

-- a number that is p less q is at most their sum in size
abs_within : (z : ℤ) (p q : ℕ) → up z + q ≡ down z + p → nat_abs z ≤ p + q
abs_within (pos n) p q e = omega arith
abs_within (negsuc n) p q e = omega arith

pub abs_add : (a b : ℤ) → nat_abs (a +ℤ b) ≤ nat_abs a + nat_abs b
abs_add a b =
    omega (arith, abs_within (a +ℤ b) (up a + up b) (down a + down b) (omega (arith, add_balance a b)), abs_is a, abs_is b)

pub abs_sub : (a b : ℤ) → nat_abs (a -ℤ b) ≤ nat_abs a + nat_abs b
abs_sub a b = omega (arith, abs_add a (neg_ℤ b), abs_neg b)

pub abs_quot : (a b : ℤ) → nat_abs (quot_z a b) ≡ nat_abs a / nat_abs b
abs_quot (pos a) (pos b) = refl
abs_quot (pos a) (negsuc b) = abs_neg (pos (a / suc b))
abs_quot (negsuc a) (pos b) = abs_neg (pos (suc a / b))
abs_quot (negsuc a) (negsuc b) = refl

-- a number whose size is below half a width's power fits the width
pub sfits : {w : Width} {z : ℤ} → nat_abs z < 2 ^ hbits w → SFits w z
sfits {z = pos n} h = record { sfits = h }
sfits {z = negsuc n} h = record { sfits = lt_of_le_of_lt (le-suc n) h }

pub sfits_abs : {w : Width} {z : ℤ} → SFits w z → nat_abs z ≤ 2 ^ hbits w
sfits_abs {z = pos n} h = le_of_lt h.sfits
sfits_abs {z = negsuc n} h = h.sfits

-- ---- sizes by rule, for `search (needs, sizes)`: a number's bound from those of its parts

pub size_mul : (m n : ℕ) (a b : ℤ) → Size m a → Size n b → Size (m * n) (a *ℤ b)
size_mul m n a b h k = record { size = omega (arith, abs_mul a b, mul-le-mul h.size k.size) }

pub size_add : (m n : ℕ) (a b : ℤ) → Size m a → Size n b → Size (m + n) (a +ℤ b)
size_add m n a b h k = record { size = omega (arith, abs_add a b, h.size, k.size) }

pub size_sub : (m n : ℕ) (a b : ℤ) → Size m a → Size n b → Size (m + n) (a -ℤ b)
size_sub m n a b h k = record { size = omega (arith, abs_sub a b, h.size, k.size) }

pub size_quot : (m : ℕ) (a b : ℤ) → Size m a → Size m (quot_z a b)
size_quot m a b h = record { size = omega (arith, abs_quot a b, div-le_self (nat_abs a) (nat_abs b), h.size) }

pub size_fits : (n : ℕ) (w : Width) (a : ℤ) → Size n a → T (ltb n (2 ^ hbits w)) → SFits w a
size_fits n w a h t = sfits (lt_of_le_of_lt h.size (ltb→lt n (2 ^ hbits w) t))

-- a quotient by a number that is not negative fits where the dividend does
mag_minus : (m a : ℕ) → m ≤ suc a → mag (neg_ℤ (pos m)) ≤ a
mag_minus zero a h = zero-le
mag_minus (suc m) a h = le_of_suc-le-suc h

mag_quot : (a : ℤ) (k : ℕ) → mag (quot_z a (pos k)) ≤ mag a
mag_quot (pos a) k = div-le_self a k
mag_quot (negsuc a) k = mag_minus (suc a / k) a (div-le_self (suc a) k)

pub quot_fits : (k : ℕ) (w : Width) (a : ℤ) → SFits w a → SFits w (quot_z a (pos k))
quot_fits k w a h = record { sfits = lt_of_le_of_lt (mag_quot a k) h.sfits }
