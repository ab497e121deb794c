-- The writer's answers, and that taking and writing one number undo each other. Assumes nothing.
use Rattle.std.proofs.Common.{◌≡◌, ℕ, zero, suc, ◌*◌, ◌/◌, ◌%◌, ◌≤◌, Bool, true, false, ℤ, pos, negsuc, ◌*ℤ◌, neg_ℤ, nat_abs, sym, refl, ap, ◌∙◌, true≢false, le_trans, arith, w32, SFits, ltb-false, le-ltb}
use mathlib.Core.Option.{Option, none, some}
use lib.IntN.{pos-*ℤ-pos}
use lib.Signed.{lt_z}
use lib.Ieee.{Float, nan, inf, fin, binary32, of_int, is_nan}
use Rattle.std.specs.Prelude.{Ok, Err}
use Rattle.oldest.specs.Floats.{is_infinite, has_fraction, magnitude_of, whole_of, plain_zero}
use Rattle.oldest.specs.Taken.{Taken, whole_in, coordinate_of, width_of}
use Rattle.plane.specs.Vectors.{same_number}
use Rattle.turning.proofs.Rays.{same_self, same_is}
use Rattle.oldest.specs.Written.{Written, returned_of, coordinate_back_of, width_back_of, float_in}
use Rattle.oldest.specs.Calls.{coordinate_out, width_out}
use Rattle.oldest.specs.Theorems.{IsWhole, IsWidth, Fits32}
use Rattle.oldest.proofs.Digits.{zero_part, nearest_plain}
use Rattle.oldest.proofs.Reasons.{coordinate_taken, coordinate_says, width_taken, width_says, size_is, no_sign}

same_number_lem : (k n : ℤ) → k ≡ n → same_number k n ≡ true
same_number_lem k n h = ap (same_number k) (sym h) ∙ same_self k

other_number : (k n : ℤ) → (k ≡ n → ⊥) → same_number k n ≡ false
other_number k n h = go (same_number k n) refl
  where
    go : (b : Bool) → same_number k n ≡ b → same_number k n ≡ false
    go true e = absurd (h (same_is k n e))
    go false e = e

-- ---- whether a number returns

-- one answer, one float
one_float : {x y : Float} → ◌≡◌ {A = Written} (Ok x) (Ok y) → x ≡ y
one_float e = cc

module _ (n : ℤ) (x : Float) (t : Taken) where
  pub none_back : whole_in t ≡ none → Err n ≡ returned_of n x t
  unfolding returned_of
  none_back h = rw (h, returned_of)

  pub same_back : {k : ℤ} → t ≡ Ok k → k ≡ n → Ok x ≡ returned_of n x t
  unfolding returned_of whole_in
  same_back {k} h e = rw (h, returned_of, whole_in, same_number_lem k n e, returned_of)

  pub other_back : {k : ℤ} → t ≡ Ok k → (k ≡ n → ⊥) → Err n ≡ returned_of n x t
  unfolding returned_of whole_in
  other_back {k} h e = rw (h, returned_of, whole_in, other_number k n e, returned_of)

  pub back_says : (y : Float) → returned_of n x t ≡ Ok y → (x ≡ y) × (whole_in t ≡ some n)
  unfolding returned_of
  back_says y = go (whole_in t)
    where
      picked : (k : ℤ) (b : Bool) → same_number k n ≡ b → ◌≡◌ {A = Written} (elim b as (λ _. Written) [ true ↦ Ok x | false ↦ Err n ]) (Ok y) → (x ≡ y) × (some k ≡ some n)
      picked k true e h = (one_float h, ap some (same_is k n e))
      picked k false e h = absurd (let z : ◌≡◌ {A = ℕ} 0 1 = cc in omega arith)

      go : (o : Option ℤ) → ◌≡◌ {A = Written} (elim o as (λ _. Written) [ some k ↦ elim (same_number k n) as (λ _. Written) [ true ↦ Ok x | false ↦ Err n ] | none ↦ Err n ]) (Ok y) → (x ≡ y) × (o ≡ some n)
      go none h = absurd (let z : ◌≡◌ {A = ℕ} 0 1 = cc in omega arith)
      go (some k) h = picked k (same_number k n) refl h

-- ---- a radius

module _ (r : ℤ) where
  pub radius_low : lt_z r (pos 0) ≡ true → Err r ≡ width_back_of r
  unfolding width_back_of
  radius_low a = rw (a, width_back_of)

  module _ (a : lt_z r (pos 0) ≡ false) where
    pub radius_high : lt_z (pos 268435456) r ≡ true → Err r ≡ width_back_of r
    unfolding width_back_of
    radius_high b = rw (a, b, width_back_of)

    pub radius_inside : lt_z (pos 268435456) r ≡ false → returned_of r (of_int binary32 (pos 2 *ℤ r)) (width_of (of_int binary32 (pos 2 *ℤ r))) ≡ width_back_of r
    unfolding width_back_of
    radius_inside b = rw (a, b, width_back_of)

-- twice a radius is no larger than a width
pub twice_fits : (r : ℤ) → lt_z r (pos 0) ≡ false → lt_z (pos 268435456) r ≡ false → SFits w32 (pos 2 *ℤ r)
twice_fits (pos n) a b = rw (pos-*ℤ-pos 2 n) (record { sfits = omega (arith, ltb-false 268435456 n b) })
twice_fits (negsuc n) a b = absurd (true≢false a)

-- ---- the writer's answers, from the numbers that the code has passed on

pub coordinate_written : {k n : ℤ} {x : Float} {t : Taken} → k ≡ n → x ≡ of_int binary32 k → t ≡ coordinate_of x → returned_of k x t ≡ coordinate_back_of n
unfolding coordinate_back_of
coordinate_written e f g = rw (g, f, e)

pub width_written : {k d n : ℤ} {x : Float} {t : Taken} → lt_z n (pos 0) ≡ false → lt_z (pos 268435456) n ≡ false
    → k ≡ n → d ≡ pos 2 *ℤ n → x ≡ of_int binary32 d → t ≡ width_of x → returned_of k x t ≡ width_back_of n
width_written {n = n} a b e d f g = rw (g, f, d, e) (radius_inside n a b)

-- what is answered as a whole number is one
pub whole_is : (t : Taken) (n : ℤ) → whole_in t ≡ some n → t ≡ Ok n
unfolding whole_in
whole_is (Ok k) n h = ap Ok (let q : some k ≡ some n = h in cc)
whole_is (Err why) n h = absurd (let z : ◌≡◌ {A = ℕ} 0 1 = cc in omega arith)

-- ---- zero for minus zero changes nothing that is asked

plain-number : (x : Float) → whole_of (plain_zero x) ≡ whole_of x
unfolding plain_zero whole_of
plain-number nan = refl
plain-number (inf s) = refl
plain-number (fin true zero e) = ap (λ (n : ℕ). neg_ℤ (pos n)) (sym (zero_part e))
plain-number (fin false zero e) = ap pos (sym (zero_part e))
plain-number (fin s (suc m) e) = refl

plain_size : (x : Float) → magnitude_of (plain_zero x) ≡ magnitude_of x
plain_size x = sym (size_is (plain_zero x)) ∙ ap nat_abs (plain-number x) ∙ size_is x

plain_whole : {most : ℕ} (x : Float) → IsWhole most x → IsWhole most (plain_zero x)
unfolding plain_zero is_nan is_infinite has_fraction
plain_whole nan w = w
plain_whole (inf s) w = w
plain_whole (fin s (suc m) e) w = w
plain_whole (fin s zero e) w = record { number = refl; finite = refl; whole = refl; within = rw (plain_size (fin s zero e)) w.within }

plain_width : (x : Float) → IsWidth x → IsWidth (plain_zero x)
plain_width x w = record { is_whole = plain_whole x w.is_whole; positive = rw (plain-number x) w.positive; even = rw (plain_size x) w.even }

-- the float nearest to a whole float's number
nearest_to : {most : ℕ} (x : Float) → Fits32 x → most ≤ 536870912 → IsWhole most x → of_int binary32 (whole_of x) ≡ plain_zero x
unfolding is_nan is_infinite
nearest_to nan f k w = absurd (true≢false w.number)
nearest_to (inf s) f k w = absurd (true≢false w.finite)
nearest_to (fin s m e) f k w = nearest_plain s m e f w.whole (le_trans w.within k)

-- ---- there and back, one number

module _ (x : Float) (f : Fits32 x) where
  pub coordinate_there : (n : ℤ) → coordinate_of x ≡ Ok n → coordinate_back_of n ≡ Ok (plain_zero x)
  unfolding coordinate_back_of
  coordinate_there n h =
      let w = coordinate_says x n h in
      let p : of_int binary32 n ≡ plain_zero x = ap (of_int binary32) (sym w.1) ∙ nearest_to x f (omega arith) w.0 in
      let t : coordinate_of (plain_zero x) ≡ Ok n = coordinate_taken (plain_zero x) (plain_whole x w.0) ∙ ap Ok (plain-number x ∙ w.1) in
      rw p (sym (same_back n (plain_zero x) (coordinate_of (plain_zero x)) t refl))

  pub width_there : (r : ℤ) → width_of x ≡ Ok r → width_back_of r ≡ Ok (plain_zero x)
  unfolding width_back_of
  width_there r h =
      let w = width_says x r h in
      let d : pos 2 *ℤ r ≡ whole_of x =
      ap (λ (z : ℤ). pos 2 *ℤ z) (sym w.1) ∙ pos-*ℤ-pos 2 (magnitude_of x / 2) ∙ ap pos (doubled w.0.even) ∙ sym (no_sign (whole_of x) w.0.positive ∙ ap pos (size_is x)) in
      let p : of_int binary32 (pos 2 *ℤ r) ≡ plain_zero x = ap (of_int binary32) d ∙ nearest_to x f (omega arith) w.0.is_whole in
      let t : width_of (plain_zero x) ≡ Ok r = width_taken (plain_zero x) (plain_width x w.0) ∙ ap (λ (n : ℕ). Ok (pos (n / 2))) (plain_size x) ∙ ap Ok w.1 in
      sym (radius_inside r (rw (← w.1) (le-ltb (magnitude_of x / 2) 0 (omega arith))) (rw (← w.1) (le-ltb 268435456 (magnitude_of x / 2) (omega (arith, w.0.is_whole.within)))))
      ∙ rw p (sym (same_back r (plain_zero x) (width_of (plain_zero x)) t refl))
    where
      doubled : magnitude_of x % 2 ≡ 0 → 2 * (magnitude_of x / 2) ≡ magnitude_of x
      doubled e = omega arith

pub coordinate_back : (n : ℤ) (x : Float) → coordinate_back_of n ≡ Ok x → coordinate_of x ≡ Ok n
unfolding coordinate_back_of
coordinate_back n x h =
    let p = back_says n (of_int binary32 n) (coordinate_of (of_int binary32 n)) x h in
    ap coordinate_of (sym p.0) ∙ whole_is (coordinate_of (of_int binary32 n)) n p.1

pub width_back : (r : ℤ) (x : Float) → width_back_of r ≡ Ok x → width_of x ≡ Ok r
width_back r x h = go (lt_z r (pos 0)) (lt_z (pos 268435456) r) refl refl
  where
    differ : Err r ≡ Ok x → ⊥
    differ e = let z : ◌≡◌ {A = ℕ} 0 1 = cc in omega arith

    go : (a b : Bool) → lt_z r (pos 0) ≡ a → lt_z (pos 268435456) r ≡ b → width_of x ≡ Ok r
    go true b ea eb = absurd (differ (radius_low r ea ∙ h))
    go false true ea eb = absurd (differ (radius_high r ea eb ∙ h))
    go false false ea eb =
        let p = back_says r (of_int binary32 (pos 2 *ℤ r)) (width_of (of_int binary32 (pos 2 *ℤ r))) x (radius_inside r ea eb ∙ h) in
        ap width_of (sym p.0) ∙ whole_is (width_of (of_int binary32 (pos 2 *ℤ r))) r p.1

-- ---- the float of a number that the code has passed on

module _ {m n : ℤ} (e : m ≡ n) {w : Written} where
  pub coordinate_some : {x : Float} → w ≡ coordinate_back_of m → w ≡ Ok x → coordinate_out n ≡ some x
  unfolding coordinate_out float_in
  coordinate_some f h = ap float_in (ap coordinate_back_of (sym e) ∙ sym f ∙ h)

  pub coordinate_not : {k : ℤ} → w ≡ coordinate_back_of m → w ≡ Err k → coordinate_out n ≡ none
  unfolding coordinate_out float_in
  coordinate_not f h = ap float_in (ap coordinate_back_of (sym e) ∙ sym f ∙ h)

  pub width_some : {x : Float} → w ≡ width_back_of m → w ≡ Ok x → width_out n ≡ some x
  unfolding width_out float_in
  width_some f h = ap float_in (ap width_back_of (sym e) ∙ sym f ∙ h)

  pub width_not : {k : ℤ} → w ≡ width_back_of m → w ≡ Err k → width_out n ≡ none
  unfolding width_out float_in
  width_not f h = ap float_in (ap width_back_of (sym e) ∙ sym f ∙ h)
