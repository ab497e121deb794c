-- The importer's answers: one law for each reason that comes first, and what a taken number says of the float. Assumes nothing.
use Rattle.std.proofs.Common.{◌≡◌, ℕ, zero, suc, ◌*◌, ◌/◌, ◌%◌, ◌^◌, ◌<◌, ◌≤◌, Bool, true, false, not, eqb, ltb, ◌⊎◌, [], ◌∷◌, ℤ, pos, negsuc, neg_ℤ, nat_abs, sym, refl, ap, ◌∙◌, inl, inr, true≢false, lt_of_le_of_lt, div-le_self, arith, lit<, w32, SFits, of_z, ltb-false, ltb-true, le-ltb, lt-ltb, eq-eqb, ne_eqb, eqb-true}
use mathlib.Core.Bool.{false≢true}
use mathlib.Core.Option.{none, some}
use lib.Signed.{mag, lt_z, quot_z, rem_z}
use lib.Ieee.{Float, nan, inf, fin, up, down, is_nan}
use Rattle.replies.specs.Replies.{first_row}
use Rattle.replies.proofs.Rows.{rows_append}
use Rattle.std.specs.Prelude.{Ok, Err}
use Rattle.oldest.specs.declared.NotTaken.{NotTaken}
use Rattle.oldest.specs.declared.NotTaken.TheVariants.{NotANumber, Infinite, Fraction, TooLarge, NegativeWidth, OddWidth}
use Rattle.oldest.specs.Floats.{is_infinite, has_fraction, magnitude_of, whole_of}
use Rattle.oldest.specs.Taken.{Taken, reasons, width_reasons, whole_within, coordinate_of, width_of, whole_in}
use Rattle.oldest.specs.Theorems.{IsWhole, IsWidth}

-- where the case is not that of a whole number, there is none
pub not_whole : (t : Taken) → ((n : ℤ) → t ≡ Ok n → ⊥) → whole_in t ≡ none
unfolding whole_in
not_whole (Ok n) k = absurd (k n refl)
not_whole (Err why) k = refl

-- one answer, one number
pub one_whole : {m n : ℤ} → ◌≡◌ {A = Taken} (Ok m) (Ok n) → m ≡ n
one_whole e = cc

-- ---- the reasons that coordinates and widths share

module _ (most : ℕ) (x : Float) (last : Taken) where
  pub first_nan : is_nan x ≡ true → Err (NotANumber x) ≡ first_row (reasons most x) last
  unfolding reasons first_row
  first_nan a = rw (a, first_row)

  pub first_infinite : is_nan x ≡ false → is_infinite x ≡ true → Err (Infinite x) ≡ first_row (reasons most x) last
  unfolding reasons first_row
  first_infinite a b = rw (a, first_row, b, first_row)

  pub first_fraction : is_nan x ≡ false → is_infinite x ≡ false → has_fraction x ≡ true → Err (Fraction x) ≡ first_row (reasons most x) last
  unfolding reasons first_row
  first_fraction a b c = rw (a, first_row, b, first_row, c, first_row)

  pub first_large : is_nan x ≡ false → is_infinite x ≡ false → has_fraction x ≡ false → most < magnitude_of x → Err (TooLarge x) ≡ first_row (reasons most x) last
  unfolding reasons first_row
  first_large a b c d = rw (a, first_row, b, first_row, c, first_row, lt-ltb most (magnitude_of x) d, first_row)

  pub no_reason : IsWhole most x → last ≡ first_row (reasons most x) last
  unfolding reasons first_row
  no_reason w = rw (w.number, first_row, w.finite, first_row, w.whole, first_row, le-ltb most (magnitude_of x) w.within, first_row)

-- one reason applies, whatever is asked after it, and under a smaller limit too
record Refuses (most : ℕ) (x : Float) : Type 0 where
  answer : Taken
  no_whole : whole_in answer ≡ none
  always : (less : ℕ) → less ≤ most → (last : Taken) → first_row (reasons less x) last ≡ answer

either : (most : ℕ) (x : Float) → IsWhole most x ⊎ Refuses most x
unfolding whole_in
either most x = go (is_nan x) (is_infinite x) (has_fraction x) (ltb most (magnitude_of x)) refl refl refl refl
  where
    go : (a b c d : Bool) → is_nan x ≡ a → is_infinite x ≡ b → has_fraction x ≡ c → ltb most (magnitude_of x) ≡ d → IsWhole most x ⊎ Refuses most x
    go true b c d ea eb ec ed = inr (record { answer = Err (NotANumber x); no_whole = refl; always = λ less k last. sym (first_nan less x last ea) })
    go false true c d ea eb ec ed = inr (record { answer = Err (Infinite x); no_whole = refl; always = λ less k last. sym (first_infinite less x last ea eb) })
    go false false true d ea eb ec ed = inr (record { answer = Err (Fraction x); no_whole = refl; always = λ less k last. sym (first_fraction less x last ea eb ec) })
    go false false false true ea eb ec ed =
        inr (record { answer = Err (TooLarge x); no_whole = refl; always = λ less k last. sym (first_large less x last ea eb ec (lt_of_le_of_lt k (ltb-true most (magnitude_of x) ed))) })
    go false false false false ea eb ec ed = inl (record { number = ea; finite = eb; whole = ec; within = ltb-false most (magnitude_of x) ed })

some_none : (t : Taken) (n : ℤ) → t ≡ Ok n → whole_in t ≡ none → ⊥
unfolding whole_in
some_none t n e h = let w : some n ≡ none = ap whole_in (sym e) ∙ h in let z : ◌≡◌ {A = ℕ} 0 1 = cc in omega arith

-- a whole number is answered only where no reason applies
passed : (most : ℕ) (x : Float) (n : ℤ) (last : Taken) → first_row (reasons most x) last ≡ Ok n → IsWhole most x × (last ≡ Ok n)
passed most x n last h = go (either most x)
  where
    go : IsWhole most x ⊎ Refuses most x → IsWhole most x × (last ≡ Ok n)
    go (inl w) = (w, no_reason most x last w ∙ h)
    go (inr r) = absurd (some_none r.answer n (sym (r.always most (omega arith) last) ∙ h) r.no_whole)

-- another answer stands, whatever is asked after it, and under a smaller limit too
stands : (less most : ℕ) (x : Float) (last : Taken) → less ≤ most → whole_in (whole_within most x) ≡ none → whole_within most x ≡ first_row (reasons less x) last
unfolding whole_within
stands less most x last k h = go (either most x)
  where
    go : IsWhole most x ⊎ Refuses most x → whole_within most x ≡ first_row (reasons less x) last
    go (inl w) = absurd (some_none (whole_within most x) (whole_of x) (sym (no_reason most x (Ok (whole_of x)) w)) h)
    go (inr r) = r.always most (omega arith) (Ok (whole_of x)) ∙ sym (r.always less k last)

-- ---- the number and its size

pub size_is : (x : Float) → nat_abs (whole_of x) ≡ magnitude_of x
unfolding whole_of magnitude_of
size_is nan = refl
size_is (inf s) = refl
size_is (fin false m e) = refl
size_is (fin true m e) = go (m * up e / down e)
  where
    go : (n : ℕ) → nat_abs (neg_ℤ (pos n)) ≡ n
    go zero = refl
    go (suc n) = refl

pub no_sign : (z : ℤ) → lt_z z (pos 0) ≡ false → z ≡ pos (nat_abs z)
no_sign (pos n) h = refl
no_sign (negsuc n) h = absurd (true≢false h)

below_limits : (z : ℤ) → lt_z z (negsuc 268435455) ≡ true → 268435456 < nat_abs z
below_limits (pos n) h = absurd (false≢true h)
below_limits (negsuc n) h = omega (arith, ltb-true 268435455 n h)

above_limits : (z : ℤ) → lt_z (pos 268435456) z ≡ true → 268435456 < nat_abs z
above_limits (pos n) h = ltb-true 268435456 n h
above_limits (negsuc n) h = absurd (false≢true h)

inside_limits : (z : ℤ) → lt_z z (negsuc 268435455) ≡ false → lt_z (pos 268435456) z ≡ false → nat_abs z ≤ 268435456
inside_limits (pos n) a b = ltb-false 268435456 n b
inside_limits (negsuc n) a b = omega (arith, ltb-false 268435455 n a)

-- ---- coordinates and widths

module _ (x : Float) where
  pub coordinate_taken : IsWhole 268435456 x → coordinate_of x ≡ Ok (whole_of x)
  unfolding coordinate_of whole_within
  coordinate_taken w = sym (no_reason 268435456 x (Ok (whole_of x)) w)

  pub coordinate_says : (n : ℤ) → coordinate_of x ≡ Ok n → IsWhole 268435456 x × (whole_of x ≡ n)
  unfolding coordinate_of whole_within
  coordinate_says n h = let p = passed 268435456 x n (Ok (whole_of x)) h in (p.0, one_whole p.1)

  width_rows : IsWhole 536870912 x → width_of x ≡ first_row (width_reasons x) (Ok (pos (magnitude_of x / 2)))
  unfolding width_of
  width_rows w = rows_append (reasons 536870912 x) (width_reasons x) (Ok (pos (magnitude_of x / 2))) ∙ sym (no_reason 536870912 x (first_row (width_reasons x) (Ok (pos (magnitude_of x / 2)))) w)

  pub width_taken : IsWidth x → width_of x ≡ Ok (pos (magnitude_of x / 2))
  unfolding width_reasons first_row
  width_taken w = width_rows w.is_whole ∙ rw (w.positive, first_row, eq-eqb (magnitude_of x % 2) 0 w.even, first_row)

  pub width_says : (r : ℤ) → width_of x ≡ Ok r → IsWidth x × (pos (magnitude_of x / 2) ≡ r)
  unfolding width_of width_reasons first_row
  width_says r h =
      let p = passed 536870912 x r _ (sym (rows_append (reasons 536870912 x) (width_reasons x) (Ok (pos (magnitude_of x / 2)))) ∙ h) in
      go p.0 (lt_z (whole_of x) (pos 0)) (eqb (magnitude_of x % 2) 0) refl refl p.1
    where
      go : IsWhole 536870912 x → (a b : Bool) → lt_z (whole_of x) (pos 0) ≡ a → eqb (magnitude_of x % 2) 0 ≡ b
          → first_row ((a, Err (NegativeWidth x)) ∷ (not b, Err (OddWidth x)) ∷ []) (Ok (pos (magnitude_of x / 2))) ≡ Ok r → IsWidth x × (pos (magnitude_of x / 2) ≡ r)
      go w true b ea eb k = absurd (let z : ◌≡◌ {A = ℕ} 0 1 = cc in omega arith)
      go w false false ea eb k = absurd (let z : ◌≡◌ {A = ℕ} 0 1 = cc in omega arith)
      go w false true ea eb k = (record { is_whole = w; positive = ea; even = eqb-true (magnitude_of x % 2) 0 eb }, one_whole k)

-- ---- from the whole number that the code has found

-- none was found: the reason stands
module _ (x : Float) {why : NotTaken} (refused : Err why ≡ whole_within 536870912 x) where
  pub coordinate_none : Err why ≡ coordinate_of x
  unfolding coordinate_of whole_within whole_in
  coordinate_none = refused ∙ stands 268435456 536870912 x (Ok (whole_of x)) (omega arith) (ap whole_in (sym refused))

  pub width_none : Err why ≡ width_of x
  unfolding width_of whole_in
  width_none =
      refused
      ∙ stands 536870912 536870912 x (first_row (width_reasons x) (Ok (pos (magnitude_of x / 2)))) (omega arith) (ap whole_in (sym refused))
      ∙ sym (rows_append (reasons 536870912 x) (width_reasons x) (Ok (pos (magnitude_of x / 2))))

module _ (x : Float) (n : ℤ) (found : whole_within 536870912 x ≡ Ok n) where
  is_whole : IsWhole 536870912 x × (whole_of x ≡ n)
  unfolding whole_within
  is_whole = let p = passed 536870912 x n (Ok (whole_of x)) found in (p.0, one_whole p.1)

  size_of : nat_abs n ≡ magnitude_of x
  size_of = ap nat_abs (sym is_whole.1) ∙ size_is x

  too_large : 268435456 < nat_abs n → Err (TooLarge x) ≡ coordinate_of x
  unfolding coordinate_of whole_within
  too_large l = let w = is_whole.0 in first_large 268435456 x (Ok (whole_of x)) w.number w.finite w.whole (omega (arith, size_of))

  pub too_low : lt_z n (negsuc 268435455) ≡ true → Err (TooLarge x) ≡ coordinate_of x
  too_low l = too_large (below_limits n l)

  pub too_high : lt_z (pos 268435456) n ≡ true → Err (TooLarge x) ≡ coordinate_of x
  too_high l = too_large (above_limits n l)

  pub coordinate_found : lt_z n (negsuc 268435455) ≡ false → lt_z (pos 268435456) n ≡ false → whole_within 536870912 x ≡ coordinate_of x
  coordinate_found a b =
      let w = is_whole.0 in
      found ∙ ap Ok (sym is_whole.1) ∙ sym (coordinate_taken x (record { number = w.number; finite = w.finite; whole = w.whole; within = omega (arith, size_of, inside_limits n a b) }))

  pub width_negative : lt_z n (pos 0) ≡ true → Err (NegativeWidth x) ≡ width_of x
  unfolding width_reasons first_row
  width_negative l = sym (width_rows x is_whole.0 ∙ rw (is_whole.1, first_row, l, first_row))

  module _ (positive : lt_z n (pos 0) ≡ false) where
    as_size : n ≡ pos (magnitude_of x)
    as_size = no_sign n positive ∙ ap pos size_of

    pub width_odd : (of_z w32 (rem_z n (pos 2)) ≡ 0 → ⊥) → Err (OddWidth x) ≡ width_of x
    unfolding width_reasons first_row
    width_odd o =
        let d : magnitude_of x % 2 ≡ 0 → ⊥ = rw as_size at o in
        sym (width_rows x is_whole.0 ∙ rw (is_whole.1, first_row, positive, first_row, ne_eqb (magnitude_of x % 2) 0 d, first_row))

    pub width_even : of_z w32 (rem_z n (pos 2)) ≡ 0 → Ok (quot_z n (pos 2)) ≡ width_of x
    width_even o =
        let p : lt_z (whole_of x) (pos 0) ≡ false = ap (λ (z : ℤ). lt_z z (pos 0)) is_whole.1 ∙ positive in
        rw as_size (sym (width_taken x (record { is_whole = is_whole.0; positive = p; even = rw as_size at o })))

-- a quotient is no larger than what is divided
pub quotient_fits : (n : ℤ) (d : ℕ) → SFits w32 n → SFits w32 (quot_z n (pos d))
quotient_fits (pos n) d h = record { sfits = lt_of_le_of_lt (div-le_self n d) h.sfits }
quotient_fits (negsuc n) d h = record { sfits = go (suc n / d) (div-le_self (suc n) d) h.sfits }
  where
    go : (q : ℕ) → q ≤ suc n → n < 2 ^ 31 → mag (neg_ℤ (pos q)) < 2 ^ 31
    go zero k l = lit< tt
    go (suc q) k l = omega arith
