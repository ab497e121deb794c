-- Tests of two-limb numbers, and the bounds that the search for a component needs. Assumes nothing.
use mathlib.Core.Path.{◌≡◌}
use Prim.Native.Nat.{ℕ, zero, suc, ◌+◌, ◌*◌, ◌/◌, ◌^◌, ◌≤◌, ◌<◌}
use native.Mathlib.Nat.{mul-le-mul, mul-le-mul_left, mul-le-mul_right, mul_assoc, add-mul, zero-mul}
use native.Mathlib.Omega.{arith}
use Rattle.whole.proofs.Squares.{square_next}

pub square_most : (n : ℕ) → n ≤ 2 ^ 31 → n * n ≤ 2 ^ 62
square_most n h = mul-le-mul {n₂ = 2 ^ 31} {m₂ = 2 ^ 31} h h

-- nothing lies below 0
pub not_none : (n s m : ℕ) → m < n * n * s → 0 < n
not_none zero s m h = absurd (omega (arith, zero-mul s))
not_none (suc n) s m h = omega arith

-- ---- by upper limbs alone: p is that of n * n * t, e that of c * c * 2 ^ 60, and d at most that of (2 * n + 1) * t

-- what is left of a * t, cut twice, is no more than it
cut_twice : (a t : ℕ) → a * (t / 2 ^ 32) / 2 ^ 32 * 2 ^ 64 ≤ a * t
cut_twice a t =
    let h : t / 2 ^ 32 * 2 ^ 32 ≤ t = omega arith in
    let k : a * (t / 2 ^ 32) / 2 ^ 32 * 2 ^ 32 ≤ a * (t / 2 ^ 32) = omega arith in
    omega (arith, mul-le-mul_left a h, mul_assoc a (t / 2 ^ 32) (2 ^ 32), mul-le-mul_right (2 ^ 32) k)

square_more : (n t : ℕ) → (n + 1) * (n + 1) * t ≡ n * n * t + (2 * n + 1) * t
square_more n t = rw (square_next n) (simp (add-mul) (omega arith))

cut_square : (c : ℕ) → (c / 16 * 2 ^ 64 ≤ c * 2 ^ 60) × (c * 2 ^ 60 < (c / 16 + 1) * 2 ^ 64)
cut_square c = (omega arith, omega arith)

module _ (n c t p : ℕ) where
  pub limbs_low : n * n * t < p * 2 ^ 64 + 2 ^ 64 → p < c * c / 16 → n * n * t ≤ c * c * 2 ^ 60
  limbs_low h k =
      let l : (p + 1) * 2 ^ 64 ≤ c * c / 16 * 2 ^ 64 = mul-le-mul_right {m = p + 1} (2 ^ 64) (omega (arith, k)) in
      omega (arith, h, l, (cut_square (c * c)).0)

  pub limbs_high : p * 2 ^ 64 ≤ n * n * t → c * c / 16 < p + (2 * n + 1) * (t / 2 ^ 32) / 2 ^ 32 → c * c * 2 ^ 60 < (n + 1) * (n + 1) * t
  limbs_high h k =
      let d = (2 * n + 1) * (t / 2 ^ 32) / 2 ^ 32 in
      let l : (c * c / 16 + 1) * 2 ^ 64 ≤ (p + d) * 2 ^ 64 = mul-le-mul_right {m = c * c / 16 + 1} (2 ^ 64) (omega (arith, k)) in
      omega (arith, h, l, add-mul p d (2 ^ 64), square_more n t, cut_twice (2 * n + 1) t, (cut_square (c * c)).1)
