-- Squares, and what Cauchy and Schwarz say of sums of products. Assumes nothing.
use mathlib.Core.Path.{◌≡◌, refl, sym, ap, ◌∙◌}
use Prim.Native.Nat.{ℕ, zero, suc, ◌+◌, ◌-◌, ◌*◌, ◌^◌, ◌≤◌, ◌<◌}
use native.Mathlib.Nat.{le_trans, mul-le-mul, lt_of_not-le, not-le_of_lt, mul_comm, mul-add, add-mul, mul_assoc, mul_left_comm, add_assoc, add_comm, add_left_comm, mul-le-mul_left, lt_of_le_of_lt, le_of_lt, pow-suc}
use native.Mathlib.Decide.{dec_le}
use native.Mathlib.Omega.{arith}
use lib.IntN.{ℤ, pos, negsuc, neg_ℤ, nat_abs, ◌+ℤ◌, ◌-ℤ◌, ◌*ℤ◌, neg_ℤ-neg_ℤ}
use lib.Pow.{shl_lt, pow-add}
use Rattle.whole.proofs.Signed.{ext, up-neg, down-neg, add_balance, mul_addℤ, add_mulℤ, mul_negℤ, neg_mulℤ, mul_commℤ, mul_assocℤ, mul_left_commℤ}
use Rattle.whole.proofs.Sizes.{abs_mul, abs_add}

-- ---- natural numbers

-- the square of one more, of twice a number
pub square_next : (r : ℕ) → (r + 1) * (r + 1) ≡ r * r + 2 * r + 1
square_next r = simp (mul-add, add-mul) (omega arith)

pub square_double : (q : ℕ) → 2 * q * (2 * q) ≡ 4 * (q * q)
square_double q = simp (mul_assoc, mul_left_comm) (omega arith)

-- the square of a number of k bits has 2k bits
pub square_below : (k : ℕ) {a : ℕ} → a < 2 ^ k → a * a < 2 ^ (k + k)
square_below k {a} h = lt_of_le_of_lt (mul-le-mul_left a (le_of_lt h)) (shl_lt k k h)

-- the square of a power of two, and of a multiple of one
pub four_power : (k : ℕ) → 4 ^ k ≡ 2 ^ (2 * k)
four_power zero = refl
four_power (suc k) =
    let e : 2 * suc k ≡ suc (suc (2 * k)) = omega arith in
    pow-suc 4 k ∙ ap (λ (n : ℕ). n * 4) (four_power k) ∙ sym (ap (λ (n : ℕ). 2 ^ n) e ∙ omega arith)

power_square : (k : ℕ) → 2 ^ k * 2 ^ k ≡ 4 ^ k
power_square k = let e : 2 * k ≡ k + k = omega arith in sym (four_power k ∙ ap (λ (n : ℕ). 2 ^ n) e ∙ pow-add 2 k k)

pub scaled_square : (n k : ℕ) → n * 2 ^ k * (n * 2 ^ k) ≡ n * n * 4 ^ k
scaled_square n k = rw (← power_square k) (simp (mul_assoc, mul_left_comm) refl)

-- squares keep the order, and tell it
pub square_most : {a b : ℕ} → a ≤ b → a * a ≤ b * b
square_most h = mul-le-mul h h

pub below_next : (a b : ℕ) → a * a < (b + 1) * (b + 1) → a ≤ b
below_next a b h = go (dec_le a b)
  where
    go : Dec (a ≤ b) → a ≤ b
    go (yes k) = k
    go (no f) = let g : b + 1 ≤ a = omega (arith, lt_of_not-le f) in absurd (not-le_of_lt h (mul-le-mul g g))

pub square_le : (a b : ℕ) → a * a ≤ b * b → a ≤ b
square_le a b h = below_next a b (omega (arith, square_next b))

pub square_lt : (a b : ℕ) → a * a < b * b → a < b
square_lt a b h = go (dec_le b a)
  where
    go : Dec (b ≤ a) → a < b
    go (yes k) = absurd (not-le_of_lt h (mul-le-mul k k))
    go (no f) = lt_of_not-le f

-- Lagrange's identity, for a * y at least b * x, with d their difference
squares_sum : (a b x y : ℕ) → (a * x + b * y) * (a * x + b * y) ≡ a * x * (a * x) + b * y * (b * y) + 2 * (a * y * (b * x))
squares_sum a b x y = simp (mul-add, add-mul, mul_assoc, mul_comm, mul_left_comm, add_assoc, add_comm, add_left_comm) (omega arith)

squares_product : (a b x y : ℕ) → (a * a + b * b) * (x * x + y * y) ≡ a * x * (a * x) + b * y * (b * y) + (a * y * (a * y) + b * x * (b * x))
squares_product a b x y = simp (mul-add, add-mul, mul_assoc, mul_comm, mul_left_comm, add_assoc, add_comm, add_left_comm) refl

difference : (q d : ℕ) → (q + d) * (q + d) + q * q ≡ 2 * ((q + d) * q) + d * d
difference q d = simp (mul-add, add-mul, mul_comm) (omega arith)

lagrange : (a b x y d : ℕ) → a * y ≡ b * x + d → (a * x + b * y) * (a * x + b * y) + d * d ≡ (a * a + b * b) * (x * x + y * y)
lagrange a b x y d e =
    let g : a * y * (a * y) + b * x * (b * x) ≡ 2 * (a * y * (b * x)) + d * d = rw e (difference (b * x) d) in
    omega (arith, squares_sum a b x y, squares_product a b x y)

cauchy_at : (a b x y d : ℕ) → a * y ≡ b * x + d → (a * x + b * y) * (a * x + b * y) ≤ (a * a + b * b) * (x * x + y * y)
cauchy_at a b x y d e = omega (arith, lagrange a b x y d e)

pub cauchy : (a b x y : ℕ) → (a * x + b * y) * (a * x + b * y) ≤ (a * a + b * b) * (x * x + y * y)
cauchy a b x y = go (dec_le (b * x) (a * y))
  where
    go : Dec (b * x ≤ a * y) → (a * x + b * y) * (a * x + b * y) ≤ (a * a + b * b) * (x * x + y * y)
    go (yes h) = cauchy_at a b x y (a * y - b * x) (omega arith)
    go (no f) =
        let l : a * y < b * x = lt_of_not-le f in
        let k : (b * y + a * x) * (b * y + a * x) ≤ (b * b + a * a) * (y * y + x * x) = cauchy_at b a y x (b * x - a * y) (omega arith) in
        simp (add_comm (a * x) (b * y), add_comm (a * a) (b * b), add_comm (x * x) (y * y)) k

-- ---- signed numbers

-- a square is not negative, and is the size's square
pub square_is : (a : ℤ) → a *ℤ a ≡ pos (nat_abs a * nat_abs a)
square_is (pos n) = refl
square_is (negsuc n) = refl

-- Cauchy and Schwarz, of sizes
pub cauchyℤ : (a b x y : ℤ) → nat_abs (a *ℤ x +ℤ b *ℤ y) * nat_abs (a *ℤ x +ℤ b *ℤ y) ≤ (nat_abs a * nat_abs a + nat_abs b * nat_abs b) * (nat_abs x * nat_abs x + nat_abs y * nat_abs y)
cauchyℤ a b x y =
    let h : nat_abs (a *ℤ x +ℤ b *ℤ y) ≤ nat_abs a * nat_abs x + nat_abs b * nat_abs y = omega (arith, abs_add (a *ℤ x) (b *ℤ y), abs_mul a x, abs_mul b y) in
    le_trans (mul-le-mul h h) (cauchy (nat_abs a) (nat_abs b) (nat_abs x) (nat_abs y))

-- what stands with both signs falls away
cancelled : (p q r t u : ℤ) → p +ℤ neg_ℤ q +ℤ (neg_ℤ q +ℤ r) +ℤ (t +ℤ q +ℤ (q +ℤ u)) ≡ p +ℤ t +ℤ (u +ℤ r)
cancelled p q r t u =
    ext _ _
    (omega (
      arith,
      add_balance (p +ℤ neg_ℤ q +ℤ (neg_ℤ q +ℤ r)) (t +ℤ q +ℤ (q +ℤ u)),
      add_balance (p +ℤ neg_ℤ q) (neg_ℤ q +ℤ r),
      add_balance p (neg_ℤ q),
      add_balance (neg_ℤ q) r,
      add_balance (t +ℤ q) (q +ℤ u),
      add_balance t q,
      add_balance q u,
      add_balance (p +ℤ t) (u +ℤ r),
      add_balance p t,
      add_balance u r,
      up-neg q,
      down-neg q,
    ))

-- the two parts of a product of two pairs, as a rotation has them: their squares add up to the product of the pairs' squares
rotated_squares : (c s x y : ℤ) → (c *ℤ x -ℤ s *ℤ y) *ℤ (c *ℤ x -ℤ s *ℤ y) +ℤ (s *ℤ x +ℤ c *ℤ y) *ℤ (s *ℤ x +ℤ c *ℤ y) ≡ (c *ℤ c +ℤ s *ℤ s) *ℤ (x *ℤ x +ℤ y *ℤ y)
rotated_squares c s x y =
    simp (mul_addℤ, add_mulℤ, mul_negℤ, neg_mulℤ, neg_ℤ-neg_ℤ, mul_assocℤ, mul_commℤ, mul_left_commℤ)
    (cancelled (c *ℤ (c *ℤ (x *ℤ x))) (c *ℤ (s *ℤ (x *ℤ y))) (s *ℤ (s *ℤ (y *ℤ y))) (s *ℤ (s *ℤ (x *ℤ x))) (c *ℤ (c *ℤ (y *ℤ y))))

-- the same of sizes
pub rotated_sizes : (c s x y : ℤ) → nat_abs (c *ℤ x -ℤ s *ℤ y) * nat_abs (c *ℤ x -ℤ s *ℤ y) + nat_abs (s *ℤ x +ℤ c *ℤ y) * nat_abs (s *ℤ x +ℤ c *ℤ y)
    ≡ (nat_abs c * nat_abs c + nat_abs s * nat_abs s) * (nat_abs x * nat_abs x + nat_abs y * nat_abs y)
rotated_sizes c s x y = ap nat_abs (simp square_is at (rotated_squares c s x y))
