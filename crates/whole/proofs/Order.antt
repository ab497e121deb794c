-- What the outcome of a test says of the numbers tested. Assumes nothing.
use mathlib.Core.Path.{◌≡◌, refl, sym, ap, subst, ◌∙◌}
use mathlib.Core.Bool.{true, false, true≢false}
use Prim.Native.Nat.{ℕ, ◌+◌, ◌≤◌, ◌<◌}
use native.Mathlib.Omega.{arith}
use lib.Dec.{T, ltb→lt}
use lib.IntN.{ℤ, pos, negsuc, neg_ℤ, nat_abs, ◌+ℤ◌, ◌-ℤ◌}
use lib.Signed.{mag, lt_z, le_z, non_neg, ◌≤ℤ◌, ◌<ℤ◌}
use borrow.Author.Tests.{ltb-true, ltb-false, leb-true, leb-false}
use Rattle.whole.proofs.Signed.{up, down, ext, add_balance, up-neg, down-neg}
use Rattle.whole.proofs.Sizes.{abs_neg}

pub lt_true : (a b : ℤ) → lt_z a b ≡ true → up a + down b < up b + down a
lt_true (pos a) (pos b) e = omega (arith, ltb-true a b e)
lt_true (pos a) (negsuc b) e = absurd (true≢false (sym e))
lt_true (negsuc a) (pos b) e = omega arith
lt_true (negsuc a) (negsuc b) e = omega (arith, ltb-true b a e)

pub lt_false : (a b : ℤ) → lt_z a b ≡ false → up b + down a ≤ up a + down b
lt_false (pos a) (pos b) e = omega (arith, ltb-false a b e)
lt_false (pos a) (negsuc b) e = omega arith
lt_false (negsuc a) (pos b) e = absurd (true≢false e)
lt_false (negsuc a) (negsuc b) e = omega (arith, ltb-false b a e)

pub le_true : (a b : ℤ) → le_z a b ≡ true → up a + down b ≤ up b + down a
le_true (pos a) (pos b) e = omega (arith, leb-true a b e)
le_true (pos a) (negsuc b) e = absurd (true≢false (sym e))
le_true (negsuc a) (pos b) e = omega arith
le_true (negsuc a) (negsuc b) e = omega (arith, leb-true b a e)

pub le_false : (a b : ℤ) → le_z a b ≡ false → up b + down a < up a + down b
le_false (pos a) (pos b) e = omega (arith, leb-false a b e)
le_false (pos a) (negsuc b) e = omega arith
le_false (negsuc a) (pos b) e = absurd (true≢false e)
le_false (negsuc a) (negsuc b) e = omega (arith, leb-false b a e)

pub nonneg : (a : ℤ) → down a ≡ 0 → T (non_neg a)
nonneg (pos n) e = tt
nonneg (negsuc n) e = absurd (omega arith)

-- 0 less a number, as the machine negates
pub minus_is : (a : ℤ) → pos 0 -ℤ a ≡ neg_ℤ a
minus_is a = ext (pos 0 -ℤ a) (neg_ℤ a) (omega (arith, add_balance (pos 0) (neg_ℤ a)))

pub abs_minus : (a : ℤ) → nat_abs (pos 0 -ℤ a) ≡ nat_abs a
abs_minus a = ap nat_abs (minus_is a) ∙ abs_neg a

-- the two outcomes of a test for a sign
pub is_neg : (a : ℤ) → lt_z a (pos 0) ≡ true → (up a ≡ 0) × (down a ≡ nat_abs a) × (0 < nat_abs a)
is_neg (pos n) e = absurd (omega (arith, ltb-true n 0 e))
is_neg (negsuc n) e = (refl, refl, omega arith)

pub not_neg : (a : ℤ) → lt_z a (pos 0) ≡ false → (up a ≡ nat_abs a) × (down a ≡ 0)
not_neg (pos n) e = (refl, refl)
not_neg (negsuc n) e = absurd (true≢false e)

pub minus_nonneg : (a : ℤ) → lt_z a (pos 0) ≡ true → T (non_neg (pos 0 -ℤ a))
minus_nonneg a t = subst (λ (z : ℤ). T (non_neg z)) (sym (minus_is a)) (nonneg (neg_ℤ a) (down-neg a ∙ (is_neg a t).0))

pub natural : {a : ℤ} → pos 0 ≤ℤ a → (up a ≡ nat_abs a) × (down a ≡ 0)
natural {a = pos n} h = (refl, refl)
natural {a = negsuc n} h = absurd h.le

-- two numbers from 0 to m differ by at most m
less_most : (z : ℤ) (p q m : ℕ) → up z + q ≡ down z + p → p ≤ m → q ≤ m → nat_abs z ≤ m
less_most (pos n) p q m e h k = omega arith
less_most (negsuc n) p q m e h k = omega arith

pub abs_between : {a b : ℤ} (m : ℕ) → pos 0 ≤ℤ a → pos 0 ≤ℤ b → nat_abs a ≤ m → nat_abs b ≤ m → nat_abs (a -ℤ b) ≤ m
abs_between {a} {b} m h k i j =
    less_most (a -ℤ b) (up a) (up b) m
    (omega (arith, add_balance a (neg_ℤ b), up-neg b, down-neg b, natural h, natural k))
    (omega (arith, natural h))
    (omega (arith, natural k))

pub positive : {a : ℤ} → pos 0 <ℤ a → (up a ≡ nat_abs a) × (down a ≡ 0) × (0 < nat_abs a)
positive {a = pos n} h = (refl, refl, ltb→lt 0 n h.lt)
positive {a = negsuc n} h = absurd h.lt

-- minus one more than a negative number: what is left of its size, less one, at every width
pub minus_next : (a : ℤ) → lt_z a (pos 0) ≡ true → pos 0 -ℤ (a +ℤ pos 1) ≡ pos (mag a)
minus_next (pos n) e = absurd (omega (arith, ltb-true n 0 e))
minus_next (negsuc n) e =
    let x = negsuc n +ℤ pos 1 in
    ext (pos 0 -ℤ x) (pos n) (omega (arith, add_balance (pos 0) (neg_ℤ x), up-neg x, down-neg x, add_balance (negsuc n) (pos 1)))

pub next_size : (a : ℤ) → lt_z a (pos 0) ≡ true → nat_abs a ≡ mag a + 1
next_size (pos n) e = absurd (omega (arith, ltb-true n 0 e))
next_size (negsuc n) e = omega arith
