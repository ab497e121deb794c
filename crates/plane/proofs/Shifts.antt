-- A shift by 30 binary places rounds a product to the nearest whole number, halves away from zero, once a half was added. Assumes nothing.
use mathlib.Core.Path.{◌≡◌, sym, ap, ◌∙◌}
use mathlib.Core.Bool.{true, false, true≢false}
use Prim.Native.Nat.{ℕ, suc, ◌+◌, ◌-◌, ◌*◌, ◌/◌, ◌^◌, ◌≤◌}
use native.Mathlib.Nat.{lt_of_le_of_lt}
use native.Mathlib.Omega.{arith}
use borrow.Author.Tests.{le-ltb}
use lib.IntN.{ℤ, pos, negsuc, neg_ℤ, nat_abs, ◌+ℤ◌, ◌*ℤ◌}
use lib.Signed.{lt_z, shr_z, mag_shr}
use mir.Syntax.{w64}
use mir.Val.{SFits, to_z}
use mir.Facts.{to_z_pos}
use Rattle.whole.specs.Sizes.{Size}
use Rattle.whole.proofs.Signed.{up, down, add_balance, up-neg, down-neg}
use Rattle.whole.proofs.Sizes.{size_mul}
use Rattle.number.specs.MulDiv.{nearest_of, rounded_of, mul_div_of}
use Rattle.number.proofs.Nearest.{nearest_is, mul-div_by}
use Rattle.plane.proofs.Products.{bits, back, short_fits, product_fits}

-- ---- what is shifted fits, and so does the result

pub shifted_fits : (m : ℕ) {z : ℤ} → SFits w64 z → SFits w64 (shr_z z m)
shifted_fits m {z} h = record { sfits = lt_of_le_of_lt (mag_shr z m) h.sfits }

pub shift_fits : {z : ℤ} → SFits w64 z → SFits w64 (shr_z z (2 ^ 30))
shift_fits h = shifted_fits (2 ^ 30) h

-- ---- to the nearest

-- over 2 ^ 30, the nearest is the quotient of half of it more
pub by_power : (n : ℕ) → (n + 2 ^ 29) / 2 ^ 30 ≡ nearest_of n (2 ^ 30)
by_power n = nearest_is n (2 ^ 30) ((n + 2 ^ 29) / 2 ^ 30) (omega arith) (omega arith)

-- of minus m and one less than a half
shift_down : (w : ℤ) (m : ℕ) → up w + m + 1 ≡ down w + 2 ^ 29 → shr_z w (2 ^ 30) ≡ neg_ℤ (pos ((m + 2 ^ 29) / 2 ^ 30))
shift_down (pos a) m e =
    let f : (m + 2 ^ 29) / 2 ^ 30 ≡ 0 = omega arith in
    let g : a / 2 ^ 30 ≡ 0 = omega arith in
    rw (f, g)
shift_down (negsuc a) m e =
    let f : (m + 2 ^ 29) / 2 ^ 30 ≡ suc (a / 2 ^ 30) = omega arith in
    rw f

minus_half : (m : ℕ) → shr_z (neg_ℤ (pos m) +ℤ pos (2 ^ 29 - 1)) (2 ^ 30) ≡ neg_ℤ (pos ((m + 2 ^ 29) / 2 ^ 30))
minus_half m = shift_down (neg_ℤ (pos m) +ℤ pos (2 ^ 29 - 1)) m (omega (arith, add_balance (neg_ℤ (pos m)) (pos (2 ^ 29 - 1)), up-neg (pos m), down-neg (pos m)))

pub shifted_minus : (d : ℤ) (r : ℕ) → lt_z d (pos 0) ≡ true → shr_z (d *ℤ pos r +ℤ pos (2 ^ 29 - 1)) (2 ^ 30) ≡ mul_div_of d (pos r) (2 ^ 30)
shifted_minus (pos n) r t = absurd (true≢false (sym t ∙ le-ltb n 0 (omega arith)))
shifted_minus (negsuc n) r t = minus_half (suc n * r) ∙ ap (λ (k : ℕ). neg_ℤ (pos k)) (by_power (suc n * r)) ∙ sym (mul-div_by (negsuc n) r (2 ^ 30) (omega arith))

pub shifted_plus : (d : ℤ) (r : ℕ) → lt_z d (pos 0) ≡ false → shr_z (d *ℤ pos r +ℤ pos (2 ^ 29)) (2 ^ 30) ≡ mul_div_of d (pos r) (2 ^ 30)
unfolding mul_div_of rounded_of
shifted_plus (pos n) r t = ap pos (by_power (n * r))
shifted_plus (negsuc n) r t = absurd (true≢false t)

-- ---- from what the code has computed on bits: z is the product, s the shifted sum

module _ (d : ℤ) (r : ℕ) (h : nat_abs d ≤ 2 ^ 30) (k : r ≤ 2 ^ 28) where
  same : bits d ≡ d
  same = back (short_fits (record { size = h }))

  natural : to_z w64 r ≡ pos r
  natural = to_z_pos w64 (omega arith)

  pub product_is : {z : ℤ} → z ≡ bits d *ℤ to_z w64 r → bits z ≡ d *ℤ pos r
  product_is {z} e =
      let f : z ≡ d *ℤ pos r = rw (same, natural) at e in
      rw f (back (product_fits {a = d} {b = pos r} (record { size = h }) (record { size = omega arith })))

  pub product_size : {z : ℤ} → z ≡ bits d *ℤ to_z w64 r → Size (2 ^ 60) (bits z)
  product_size e = rw (product_is e) (size_mul (2 ^ 30) (2 ^ 30) d (pos r) (record { size = h }) (record { size = omega arith }))

  pub minus_back : {z s : ℤ} → z ≡ bits d *ℤ to_z w64 r → lt_z (bits d) (pos 0) ≡ true → s ≡ shr_z (bits z +ℤ pos (2 ^ 29 - 1)) (2 ^ 30) → SFits w64 s → bits s ≡ mul_div_of d (pos r) (2 ^ 30)
  minus_back e t f i = back i ∙ f ∙ ap (λ (z : ℤ). shr_z (z +ℤ pos (2 ^ 29 - 1)) (2 ^ 30)) (product_is e) ∙ shifted_minus d r (rw same at t)

  pub plus_back : {z s : ℤ} → z ≡ bits d *ℤ to_z w64 r → lt_z (bits d) (pos 0) ≡ false → s ≡ shr_z (bits z +ℤ pos (2 ^ 29)) (2 ^ 30) → SFits w64 s → bits s ≡ mul_div_of d (pos r) (2 ^ 30)
  plus_back e t f i = back i ∙ f ∙ ap (λ (z : ℤ). shr_z (z +ℤ pos (2 ^ 29)) (2 ^ 30)) (product_is e) ∙ shifted_plus d r (rw same at t)
