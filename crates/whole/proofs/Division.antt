-- Division towards zero. Assumes nothing.
use mathlib.Core.Path.{◌≡◌, ap, sym, ◌∙◌}
use Prim.Native.Nat.{ℕ, suc, ◌*◌, ◌/◌, ◌%◌, ◌≤◌}
use native.Mathlib.Nat.{div-add-mod', div-mul-le_self}
use lib.IntN.{ℤ, pos, negsuc, neg_ℤ, nat_abs, ◌+ℤ◌, ◌*ℤ◌, neg_ℤ-+ℤ}
use lib.Signed.{quot_z, rem_z}
use Rattle.whole.proofs.Signed.{neg_mulℤ}
use Rattle.whole.proofs.Sizes.{abs_quot}

-- a quotient towards zero, times the divisor, and the remainder make the dividend
pub quot_rem : (a : ℤ) (b : ℕ) → quot_z a (pos b) *ℤ pos b +ℤ rem_z a (pos b) ≡ a
quot_rem (pos a) b = ap pos (div-add-mod' a b)
quot_rem (negsuc a) b =
    (λ i. neg_mulℤ (pos (suc a / b)) (pos b) i +ℤ neg_ℤ (pos (suc a % b)))
    ∙ sym (neg_ℤ-+ℤ (pos (suc a / b * b)) (pos (suc a % b)))
    ∙ ap (λ (n : ℕ). neg_ℤ (pos n)) (div-add-mod' (suc a) b)

-- the quotient times the divisor is no larger than the dividend
pub quot_most : (a : ℤ) (b : ℕ) → nat_abs (quot_z a (pos b)) * b ≤ nat_abs a
quot_most a b = rw (abs_quot a (pos b)) (div-mul-le_self (nat_abs a) b)
