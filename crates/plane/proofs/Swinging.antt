-- A rotation in two parts is a rotation: what a swing reaches, its division by way of an upper half, and where it lands. Assumes nothing.
use mathlib.Core.Path.{◌≡◌, refl, sym, ap, ◌∙◌}
use mathlib.Core.Bool.{true, false, true≢false}
use Prim.Native.Nat.{ℕ, zero, suc, ◌+◌, ◌-◌, ◌*◌, ◌/◌, ◌^◌, ◌≤◌, ◌<◌}
use native.Mathlib.Omega.{arith}
use borrow.Author.Tests.{le-ltb}
use lib.IntN.{ℤ, pos, negsuc, nat_abs, ◌+ℤ◌, ◌-ℤ◌, ◌*ℤ◌}
use lib.Signed.{lt_z, quot_z, shr_z}
use mir.Syntax.{w64}
use mir.Val.{SFits, to_z}
use Rattle.whole.specs.Sizes.{Size}
use Rattle.whole.proofs.Signed.{up, down, ext, add_balance, up-mul, down-mul, up-neg}
use Rattle.whole.proofs.Sizes.{size_add, size_mul, size_fits, quot_fits}
use Rattle.number.specs.MulDiv.{mul_div_of}
use Rattle.plane.specs.Vectors.{Short}
use Rattle.plane.specs.Directions.{UnitLong, rotated_of}
use Rattle.plane.specs.Swings.{swing_of, heading_of, Swings}
use Rattle.plane.proofs.Products.{bits, back, small_fits, sum_fits, difference_fits}
use Rattle.plane.proofs.Turns.{first_is, second_is}
use Rattle.plane.proofs.Norms.{most_product, most_first, most_second}
use Rattle.plane.proofs.Leeway.{unit_most}
use Rattle.plane.proofs.Shifts.{product_is, shift_fits, shifted_minus, shifted_plus}
use Rattle.plane.specs.declared.Vector.{Vector}
use Rattle.plane.specs.declared.rotation.Swing.{Swing}

-- ---- the two parts

pub heading_swing : (t v : Vector) → heading_of (swing_of t v) ≡ rotated_of t v
unfolding swing_of heading_of rotated_of
heading_swing t v = refl

pub swing_reach : {t v : Vector} → UnitLong t → UnitLong v → Swings (swing_of t v)
unfolding swing_of
swing_reach {t} {v} h k =
    let m = most_product t.x t.y v.x v.y (unit_most t h) (unit_most v k) in
    record { x = record { size = most_first m }; y = record { size = most_second m } }

-- from what the code has computed on bits
pub swing_back : (t v : Vector) {a b : ℤ} → Short t → Short v
    → a ≡ bits t.x *ℤ bits v.x -ℤ bits t.y *ℤ bits v.y → b ≡ bits t.y *ℤ bits v.x +ℤ bits t.x *ℤ bits v.y
    → record { x = bits a; y = bits b } ≡ swing_of t v
unfolding swing_of
swing_back t v h k e f =
    rw (first_is h k e, second_is h k f, back (difference_fits h.x k.x h.y k.y), back (sum_fits h.y k.x h.x k.y))

wide_fits : {z : ℤ} → Size (2 ^ 60) z → SFits w64 z
wide_fits h = size_fits (2 ^ 60) w64 _ h tt

pub heading_back : (s : Swing) {a b : ℤ} → Swings s → a ≡ quot_z (bits s.x) (pos (2 ^ 30)) → b ≡ quot_z (bits s.y) (pos (2 ^ 30)) → record { x = bits a; y = bits b } ≡ heading_of s
unfolding heading_of
heading_back s h e f =
    let fx = wide_fits h.x in
    let fy = wide_fits h.y in
    rw (e, f, back fx, back fy, back (quot_fits (2 ^ 30) w64 _ fx), back (quot_fits (2 ^ 30) w64 _ fy))

-- ---- the upper half of four times as much

four_size : {z : ℤ} → Size (2 ^ 60) z → Size (2 ^ 62) (pos 4 *ℤ z)
four_size h = size_mul 4 (2 ^ 60) (pos 4) _ (record { size = omega arith }) h

-- ---- landing

-- the quotient rounded down
floor_low : (z : ℤ) → up (shr_z z (2 ^ 30)) * 2 ^ 30 + down z ≤ up z + down (shr_z z (2 ^ 30)) * 2 ^ 30
floor_low (pos a) = omega arith
floor_low (negsuc a) = omega arith

floor_high : (z : ℤ) → up z + down (shr_z z (2 ^ 30)) * 2 ^ 30 < up (shr_z z (2 ^ 30)) * 2 ^ 30 + 2 ^ 30 + down z
floor_high (pos a) = omega arith
floor_high (negsuc a) = omega arith

-- whole parts go past it
shift_past : (c w : ℤ) → shr_z (c *ℤ pos (2 ^ 30) +ℤ w) (2 ^ 30) ≡ c +ℤ shr_z w (2 ^ 30)
shift_past c w =
    let z = c *ℤ pos (2 ^ 30) +ℤ w in
    ext (shr_z z (2 ^ 30)) (c +ℤ shr_z w (2 ^ 30))
    (omega (arith, floor_low z, floor_high z, floor_low w, floor_high w, add_balance (c *ℤ pos (2 ^ 30)) w, up-mul c (pos (2 ^ 30)), down-mul c (pos (2 ^ 30)), add_balance c (shr_z w (2 ^ 30))))

-- a component of 0 is scaled to 0, whichever half it gets
landed_minus : (z d : ℤ) (r : ℕ) → lt_z z (pos 0) ≡ true → d ≡ quot_z z (pos (2 ^ 30)) → shr_z (d *ℤ pos r +ℤ pos (2 ^ 29 - 1)) (2 ^ 30) ≡ mul_div_of d (pos r) (2 ^ 30)
landed_minus z (negsuc n) r t e = shifted_minus (negsuc n) r refl
landed_minus z (pos zero) r t e =
    let f : (0 * r + (2 ^ 29 - 1)) / 2 ^ 30 ≡ (0 * r + 2 ^ 29) / 2 ^ 30 = omega arith in
    ap pos f ∙ shifted_plus (pos 0) r refl
landed_minus (pos m) (pos (suc n)) r t e = absurd (true≢false (sym t ∙ le-ltb m 0 (omega arith)))
landed_minus (negsuc m) (pos (suc n)) r t e =
    let f : suc n ≡ 0 = ap up e ∙ up-neg (pos (suc m / 2 ^ 30)) in
    absurd (omega (arith, f))

landed_plus : (z d : ℤ) (r : ℕ) → lt_z z (pos 0) ≡ false → d ≡ quot_z z (pos (2 ^ 30)) → shr_z (d *ℤ pos r +ℤ pos (2 ^ 29)) (2 ^ 30) ≡ mul_div_of d (pos r) (2 ^ 30)
landed_plus (negsuc m) d r t e = absurd (true≢false t)
landed_plus (pos m) d r t e = shifted_plus d r (rw e (le-ltb (m / 2 ^ 30) 0 (omega arith)))

-- ---- from what the code has computed on bits

module _ (z : ℤ) (h : Size (2 ^ 60) z) where
  wide_back : bits z ≡ z
  wide_back = back (wide_fits h)

  pub four_fits : SFits w64 (pos 4 *ℤ bits z)
  four_fits = rw wide_back (size_fits (2 ^ 62) w64 _ (four_size h) tt)

  raised_is : SFits w64 (pos 4 *ℤ z +ℤ pos (2 ^ 32 - 4))
  raised_is = size_fits (2 ^ 62 + 2 ^ 32) w64 _ (size_add (2 ^ 62) (2 ^ 32) _ _ (four_size h) (record { size = omega arith })) tt

  pub raised_fits : SFits w64 (bits (pos 4 *ℤ bits z) +ℤ pos (2 ^ 32 - 4))
  raised_fits = rw (back four_fits, wide_back) raised_is

-- c * 2 ^ 30 + (z + h), shifted down
module _ (c z h : ℤ) (hc : Size (2 ^ 28) c) (hz : Size (2 ^ 60) z) (hh : Size (2 ^ 60) h) where
  centre_size : Size (2 ^ 58) (c *ℤ pos (2 ^ 30))
  centre_size = size_mul (2 ^ 28) (2 ^ 30) c (pos (2 ^ 30)) hc (record { size = omega arith })

  pub centre_fits : SFits w64 (bits c *ℤ pos (2 ^ 30))
  centre_fits = rw (back (small_fits hc)) (size_fits (2 ^ 58) w64 _ centre_size tt)

  pub offset_fits : SFits w64 (bits z +ℤ bits h)
  offset_fits = rw (wide_back z hz, wide_back h hh) (size_fits (2 ^ 61) w64 _ (size_add (2 ^ 60) (2 ^ 60) z h hz hh) tt)

  pub moved_fits : SFits w64 (bits (bits c *ℤ pos (2 ^ 30)) +ℤ bits (bits z +ℤ bits h))
  moved_fits =
      rw (back centre_fits, back offset_fits, back (small_fits hc), wide_back z hz, wide_back h hh)
      (size_fits (2 ^ 58 + 2 ^ 61) w64 _ (size_add (2 ^ 58) (2 ^ 61) _ _ centre_size (size_add (2 ^ 60) (2 ^ 60) z h hz hh)) tt)

  pub lowered_back : bits (shr_z (bits (bits (bits c *ℤ pos (2 ^ 30)) +ℤ bits (bits z +ℤ bits h))) (2 ^ 30)) ≡ c +ℤ shr_z (z +ℤ h) (2 ^ 30)
  lowered_back =
      rw (back moved_fits, back (shift_fits moved_fits), back centre_fits, back offset_fits, back (small_fits hc), wide_back z hz, wide_back h hh)
      (shift_past c (z +ℤ h))

-- where a swing lands: p is the product, q what the code has moved by it
module _ (c z d : ℤ) (r : ℕ) (hc : Size (2 ^ 28) c) (e : d ≡ quot_z z (pos (2 ^ 30))) (h : nat_abs d ≤ 2 ^ 30) (k : r ≤ 2 ^ 28) (f : SFits w64 z) where
  pub landed_minus_back : {p q : ℤ} → p ≡ bits d *ℤ to_z w64 r → lt_z (bits z) (pos 0) ≡ true → q ≡ bits c +ℤ shr_z (bits p +ℤ pos (2 ^ 29 - 1)) (2 ^ 30) → SFits w64 q
      → bits q ≡ c +ℤ mul_div_of d (pos r) (2 ^ 30)
  landed_minus_back u t v i = back i ∙ v ∙ rw (back (small_fits hc), product_is d r h k u, landed_minus z d r (rw (back f) at t) e)

  pub landed_plus_back : {p q : ℤ} → p ≡ bits d *ℤ to_z w64 r → lt_z (bits z) (pos 0) ≡ false → q ≡ bits c +ℤ shr_z (bits p +ℤ pos (2 ^ 29)) (2 ^ 30) → SFits w64 q
      → bits q ≡ c +ℤ mul_div_of d (pos r) (2 ^ 30)
  landed_plus_back u t v i = back i ∙ v ∙ rw (back (small_fits hc), product_is d r h k u, landed_plus z d r (rw (back f) at t) e)
