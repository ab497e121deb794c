-- A product over a divisor by the leading parts of both: den is d * p + dl and num is n * p + nl. Assumes nothing.
use Rattle.std.proofs.Common.{◌≡◌, ℕ, zero, suc, ◌+◌, ◌-◌, ◌*◌, ◌/◌, ◌%◌, ◌^◌, ◌<◌, ◌≤◌, Bool, true, false, eqb, ltb, ◌⊎◌, sym, refl, ap, ◌∙◌, inl, inr, le_of_lt, mul-le-mul_right, mod-lt, mod-eq_of_lt, mul_assoc, add-mul, mul-le-mul, lt_of_mul-lt-mul_right, mul-zero, div-add-mod', mul-add, arith, ltb-false, ltb-true, eq-eqb, ne_eqb, eqb-true}
use native.Mathlib.Nat.{div-le_of_le-mul, add-mul-mod_self_right}
use borrow.Author.Tests.{eqb-false}
use Rattle.number.specs.MulDiv.{nearest_of, none_left}
use Rattle.number.proofs.Nearest.{nearest_is}

-- what is spared of a factor counts little
spared_low : (m k p den : ℕ) → m ≤ 2 ^ 31 → k < p → (p ≡ 1) ⊎ (2 ^ 33 * p ≤ den) → 2 * (m * k) ≤ den
spared_low m k p den h l (inl e) = let z : k ≡ 0 = omega arith in simp (z, mul-zero) (omega arith)
spared_low m k p den h l (inr g) = omega (arith, mul-le-mul {n₂ = 2 ^ 31} {m₂ = p} h (le_of_lt l))

one_more : (d p : ℕ) → (d + 1) * p ≡ d * p + p
one_more d p = simp add-mul (omega arith)

some : (den p d dl : ℕ) → 0 < den → den ≡ d * p + dl → dl < p → (p ≡ 1) ⊎ (2 ^ 33 * p ≤ den) → 0 < d
some den p zero dl h e l (inl f) = omega arith
some den p zero dl h e l (inr g) = omega arith
some den p (suc d) dl h e l g = omega arith

regroup : (r p n nl d dl q m : ℕ) → r * n ≡ q * d + m → r * (n * p + nl) + q * dl ≡ q * (d * p + dl) + (m * p + r * nl)
regroup r p n nl d dl q m e =
    left ∙ ap (λ (x : ℕ). x * p + r * nl + q * dl) e ∙ right
  where
    left : r * (n * p + nl) + q * dl ≡ r * n * p + r * nl + q * dl
    left = simp (mul-add, mul_assoc) refl

    right : (q * d + m) * p + r * nl + q * dl ≡ q * (d * p + dl) + (m * p + r * nl)
    right = simp (mul-add, add-mul, mul_assoc) (omega arith)

pub record Led (r num den p n nl d dl : ℕ) : Type 0 where
  pub some : 0 < d
  pub product : r * n < 2 ^ 64
  pub quo : r * n / d ≤ 2 ^ 31
  pub left : 2 * (r * nl) ≤ den
  pub right : 2 * (r * n / d * dl) ≤ den
  pub rest : r * n % d * p + p ≤ den
  pub whole : r * num + r * n / d * dl ≡ r * n / d * den + (r * n % d * p + r * nl)

module _
    (r num den p n nl d dl : ℕ)
    (small : r ≤ 2 ^ 28)
    (most : num ≤ 4 * den)
    (above : 0 < den)
    (den-is : den ≡ d * p + dl)
    (dl-lt : dl < p)
    (num-is : num ≡ n * p + nl)
    (nl-lt : nl < p)
    (few : den < 2 ^ 34 * p)
    (many : (p ≡ 1) ⊎ (2 ^ 33 * p ≤ den)) where
  d_some : 0 < d
  d_some = some den p d dl above den-is dl-lt many

  d_small : d < 2 ^ 34
  d_small = lt_of_mul-lt-mul_right p (omega arith)

  n_small : n < 4 * (d + 1)
  n_small = lt_of_mul-lt-mul_right p (omega (arith, mul_assoc 4 (d + 1) p, one_more d p))

  product_small : r * n ≤ 2 ^ 28 * (4 * d + 3)
  product_small = mul-le-mul {n₂ = 2 ^ 28} {m₂ = 4 * d + 3} small (omega (arith, n_small))

  quo_small : r * n / d ≤ 2 ^ 31
  quo_small = div-le_of_le-mul d (omega (arith, product_small, d_some))

  rest_small : r * n % d * p + p ≤ d * p
  rest_small = omega (arith, one_more (r * n % d) p, mul-le-mul_right p (mod-lt (r * n) d_some))

  pub led : Led r num den p n nl d dl
  led = record {
    some = d_some;
    product = omega (arith, product_small, d_small);
    quo = quo_small;
    left = spared_low r nl p den (omega arith) nl-lt many;
    right = spared_low (r * n / d) dl p den quo_small dl-lt many;
    rest = omega (arith, rest_small);
    whole = rw (num-is, den-is) (regroup r p n nl d dl (r * n / d) (r * n % d) (sym (div-add-mod' (r * n) d)));
  }

module _ (r num den p n nl d dl : ℕ) (k : Led r num den p n nl d dl) (p-some : 0 < p) where
  pub up : den + 2 * (r * n / d * dl) ≤ 2 * (r * n % d * p + r * nl) → r * n / d + 1 ≡ nearest_of (r * num) den
  up h = nearest_is (r * num) den (r * n / d + 1) (omega (arith, k, one_more (r * n / d) den)) (omega (arith, k, one_more (r * n / d) den))

  pub same : 2 * (r * n % d * p + r * nl) < den + 2 * (r * n / d * dl) → r * n / d ≡ nearest_of (r * num) den
  same h = nearest_is (r * num) den (r * n / d) (omega (arith, k)) (omega (arith, k))

-- ---- whether anything is left over

-- s is what k times the divisor leave of x
left_over : (x k s den : ℕ) → x ≡ s + k * den → s < den → x % den ≡ s
left_over x k s den e h = ap (λ (n : ℕ). n % den) e ∙ add-mul-mod_self_right s k den ∙ mod-eq_of_lt h

none_is : (x k s den : ℕ) {t : Bool} → x ≡ s + k * den → s < den → eqb s 0 ≡ t → t ≡ none_left x den
unfolding none_left
none_is x k s den e h f = sym f ∙ sym (ap (λ (n : ℕ). eqb n 0) (left_over x k s den e h))

module _ (r num den p n nl d dl : ℕ) (k : Led r num den p n nl d dl) (some : 0 < den) where
  a : ℕ
  a = r * n % d * p + r * nl

  b : ℕ
  b = r * n / d * dl

  -- rounded up: what is left is a less b, or that less the divisor
  pub up_exact : den + 2 * (r * n / d * dl) ≤ 2 * (r * n % d * p + r * nl) → eqb (r * n % d * p + r * nl) (den + r * n / d * dl) ≡ none_left (r * num) den
  unfolding a b
  up_exact h = go (eqb a (den + b)) refl
    where
      more : (x : Bool) → ltb a (den + b) ≡ x → (a ≡ den + b → ⊥) → false ≡ none_left (r * num) den
      more true e f = let l = ltb-true a (den + b) e in none_is (r * num) (r * n / d) (a - b) den (omega (arith, k)) (omega (arith, k)) (ne_eqb (a - b) 0 (λ z. omega arith))
      more false e f = let l = ltb-false a (den + b) e in none_is (r * num) (r * n / d + 1) (a - (den + b)) den (omega (arith, k, one_more (r * n / d) den)) (omega (arith, k)) (ne_eqb (a - (den + b)) 0 (λ z. f (omega arith)))

      go : (x : Bool) → eqb a (den + b) ≡ x → x ≡ none_left (r * num) den
      go true e = let f = eqb-true a (den + b) e in none_is (r * num) (r * n / d + 1) 0 den (omega (arith, k, one_more (r * n / d) den)) some (eq-eqb 0 0 refl)
      go false e = more (ltb a (den + b)) refl (eqb-false a (den + b) e)

  pub same_exact : 2 * (r * n % d * p + r * nl) < den + 2 * (r * n / d * dl) → eqb (r * n % d * p + r * nl) (r * n / d * dl) ≡ none_left (r * num) den
  unfolding a b
  same_exact h = go (eqb a b) refl
    where
      less : (q : ℕ) → r * n / d ≡ q → a < b → false ≡ none_left (r * num) den
      less zero e l = absurd (omega (arith, ap (λ (x : ℕ). x * dl) e))
      less (suc q) e l = none_is (r * num) q (den + a - b) den (omega (arith, k, ap (λ (x : ℕ). x * den) e, one_more q den)) (omega (arith, k)) (ne_eqb (den + a - b) 0 (λ z. omega (arith, k)))

      more : (x : Bool) → ltb a b ≡ x → (a ≡ b → ⊥) → false ≡ none_left (r * num) den
      more true e f = less (r * n / d) refl (ltb-true a b e)
      more false e f = let l = ltb-false a b e in none_is (r * num) (r * n / d) (a - b) den (omega (arith, k)) (omega (arith, k)) (ne_eqb (a - b) 0 (λ z. f (omega arith)))

      go : (x : Bool) → eqb a b ≡ x → x ≡ none_left (r * num) den
      go true e = let f = eqb-true a b e in none_is (r * num) (r * n / d) 0 den (omega (arith, k)) some (eq-eqb 0 0 refl)
      go false e = more (ltb a b) refl (eqb-false a b e)
