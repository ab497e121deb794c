-- What the limits leave of a step that is not broken: everything that its contacts are made of fits 64 bits, and each contact lies about its
-- centre. Assumes nothing.
use mathlib.Core.Path.{◌≡◌, refl, ap, ◌∙◌}
use mathlib.Core.Bool.{false}
use Prim.Native.Nat.{ℕ, suc, ◌+◌, ◌-◌, ◌*◌, ◌/◌, ◌^◌, ◌≤◌, ◌<◌}
use native.Mathlib.Nat.{mul-le-mul, mul-le-mul_right, lt_of_le_of_lt, lt_of_lt_of_le, not-le_of_lt, lt_of_not-le}
use native.Mathlib.Decide.{dec_le}
use native.Mathlib.Omega.{arith}
use borrow.Author.Tests.{leb-false}
use lib.Count.{count_leading_zeros, leading_top}
use lib.IntN.{ℤ, pos, neg_ℤ, nat_abs, ◌+ℤ◌, ◌-ℤ◌, ◌*ℤ◌, +ℤ-neg_ℤ_cancel}
use lib.Pow.{pow_mono, pow-lt, pow_pos, shl_lt}
use Rattle.whole.proofs.Signed.{mul_right_commℤ, add_commℤ}
use Rattle.whole.proofs.Order.{abs_between}
use Rattle.whole.proofs.Sizes.{abs_mul, abs_neg, size_sub}
use Rattle.whole.proofs.Squares.{square_le, square_most, four_power, scaled_square, rotated_sizes}
use Rattle.number.specs.MulDiv.{mul_div_of}
use Rattle.number.proofs.Roots.{root_is}
use Rattle.number.proofs.Nearest.{mul-div_pair}
use Rattle.plane.specs.Vectors.{from_to, square_of}
use Rattle.plane.specs.declared.Vector.{Vector}
use Rattle.turning.specs.Bounds.{Centre, About}
use Rattle.contacts.specs.Contacts.{centre_of, line_of, delta_of, shift_of, tangent_of, numerator_of, contact_of, side_of, section_of, broken_of}
use Rattle.contacts.specs.Bounds.{Inside, Line, Around}
use Rattle.contacts.specs.declared.Vertex.{Vertex}

-- ---- the line and the radii

pub centre_is : {v : Vertex} → Inside v → Centre (centre_of v)
unfolding centre_of
centre_is {v} h = record { x = h.x; y = h.y }

-- the line between two vertices, and its squared length
pub line_is : {a b : Vertex} → Inside a → Inside b → Line (line_of a b)
unfolding line_of from_to centre_of
line_is {a} {b} h k = record { x = size_sub (2 ^ 28) (2 ^ 28) _ _ k.x h.x; y = size_sub (2 ^ 28) (2 ^ 28) _ _ k.y h.y }

pub line_square : {v : Vector} → Line v → square_of v ≤ 2 ^ 59
unfolding square_of
line_square {v} h = omega (arith, mul-le-mul {n₂ = 2 ^ 29} {m₂ = 2 ^ 29} h.x.size h.x.size, mul-le-mul {n₂ = 2 ^ 29} {m₂ = 2 ^ 29} h.y.size h.y.size)

-- two radii differ by no more than a radius
pub delta_most : {a b : Vertex} → Inside a → Inside b → nat_abs (delta_of a b) ≤ 2 ^ 28
unfolding delta_of
delta_most h k = abs_between (2 ^ 28) h.radius.low k.radius.low h.radius.high k.radius.high

pub not_broken : (a b : Vertex) → broken_of a b ≡ false → nat_abs (delta_of a b) * nat_abs (delta_of a b) < square_of (line_of a b)
unfolding broken_of
not_broken a b e = leb-false _ _ e

-- ---- the shift

-- what the shift leaves room for
pub record Shifts (sq k : ℕ) : Type 0 where
  pub low : 1 ≤ k
  pub high : k ≤ 31
  pub square : sq * 4 ^ k < 2 ^ 63
  pub divisor : sq * 2 ^ k < 2 ^ 62

-- the highest digit of a number that is at most 2 ^ i stands no higher than at i
top_most : (j i n : ℕ) → 2 ^ j ≤ n → n ≤ 2 ^ i → j ≤ i
top_most j i n h k = go (dec_le j i)
  where
    go : Dec (j ≤ i) → j ≤ i
    go (yes l) = l
    go (no l) = absurd (not-le_of_lt (lt_of_le_of_lt k (pow-lt (lt_of_not-le l))) h)

shifts_at : (sq j k : ℕ) → j ≤ 59 → sq < 2 ^ suc j → k ≡ (62 - j) / 2 → Shifts sq k
shifts_at sq j k h l e = record {
  low = omega arith;
  high = omega arith;
  square = rw (four_power k) (lt_of_lt_of_le (shl_lt (suc j) (2 * k) l) (pow_mono {i = suc j + 2 * k} {j = 63} (omega arith)));
  divisor = lt_of_lt_of_le (shl_lt (suc j) k l) (pow_mono {i = suc j + k} {j = 62} (omega arith));
}

pub leading_some : (sq : ℕ) → 0 < sq → sq ≤ 2 ^ 59 → 1 ≤ count_leading_zeros 64 sq
leading_some sq h k =
    let top = leading_top 64 sq h (omega arith) in
    omega (arith, top.1, top_most top.0 59 sq top.2 k)

pub shift_is : (sq : ℕ) → 0 < sq → sq ≤ 2 ^ 59 → Shifts sq (shift_of sq)
unfolding shift_of
shift_is sq h k =
    let top = leading_top 64 sq h (omega arith) in
    shifts_at sq top.0 _ (top_most top.0 59 sq top.2 k) top.3 (ap (λ (n : ℕ). n / 2) (omega (arith, top.1)))

-- ---- the tangent

pub tangent_square : (sq : ℕ) (delta : ℤ) → tangent_of sq delta * tangent_of sq delta ≤ (sq - nat_abs delta * nat_abs delta) * 4 ^ shift_of sq
unfolding tangent_of
tangent_square sq delta = (root_is ((sq - nat_abs delta * nat_abs delta) * 4 ^ shift_of sq)).low

-- ---- the numerators, for a tangent of either sign

-- with d for delta² and q for 4 ^ k
room : (sq d t q : ℕ) → d ≤ sq → t ≤ (sq - d) * q → d * q + t ≤ sq * q
room sq d t q h k =
    let e : sq ≡ d + (sq - d) = omega arith in
    omega (arith, ap (λ (n : ℕ). n * q) e)

pub numerator_square : (v : Vector) (delta t : ℤ) (k : ℕ) → nat_abs delta * nat_abs delta ≤ square_of v → nat_abs t * nat_abs t ≤ (square_of v - nat_abs delta * nat_abs delta) * 4 ^ k
    → square_of (numerator_of v delta k t) ≤ square_of v * 2 ^ k * (square_of v * 2 ^ k)
unfolding square_of numerator_of
numerator_square v delta t k h l =
    let p = 2 ^ k in
    let e = rotated_sizes (delta *ℤ pos p) t v.x v.y in
    let c : nat_abs (delta *ℤ pos p) * nat_abs (delta *ℤ pos p) ≡ nat_abs delta * nat_abs delta * 4 ^ k = rw (abs_mul delta (pos p)) (scaled_square (nat_abs delta) k) in
    rw (mul_right_commℤ delta v.x (pos p), mul_right_commℤ delta v.y (pos p), add_commℤ (delta *ℤ pos p *ℤ v.y) (t *ℤ v.x), e, c, scaled_square (square_of v) k)
    (omega (arith, mul-le-mul_right (square_of v) (room (square_of v) (nat_abs delta * nat_abs delta) (nat_abs t * nat_abs t) (4 ^ k) h l)))

-- ---- the contacts

offset : (a m : ℤ) → a +ℤ m -ℤ a ≡ m
offset a m = ap (λ (z : ℤ). z -ℤ a) (add_commℤ a m) ∙ +ℤ-neg_ℤ_cancel m a

pub contact_about : (d : ℕ) (n : Vector) (v : Vertex) → 0 < d → square_of n ≤ d * d → Inside v → About (centre_of v) (contact_of d n v)
unfolding square_of from_to centre_of contact_of
contact_about d n v h k l = record {
  within = rw (offset v.x (mul_div_of v.radius n.x d), offset v.y (mul_div_of v.radius n.y d))
      (lt_of_lt_of_le (mul-div_pair v.radius n.x n.y d h k) (square_most {a = nat_abs v.radius + 1} {b = 2 ^ 28 + 1} (omega (arith, l.radius.high))));
}

-- each component of a numerator is at most the divisor
pub component_most : (n : Vector) (d : ℕ) → square_of n ≤ d * d → (nat_abs n.x ≤ d) × (nat_abs n.y ≤ d)
unfolding square_of
component_most n d h = (square_le (nat_abs n.x) d (omega arith), square_le (nat_abs n.y) d (omega arith))

-- ---- a step that is not broken

module _ {a b : Vertex} (h : Inside a) (k : Inside b) (e : broken_of a b ≡ false) where
  pub line_some : 0 < square_of (line_of a b)
  line_some = omega (arith, not_broken a b e)

  pub step_shifts : Shifts (square_of (line_of a b)) (shift_of (square_of (line_of a b)))
  step_shifts = shift_is (square_of (line_of a b)) line_some (line_square (line_is h k))

  pub divisor_some : 0 < square_of (line_of a b) * 2 ^ shift_of (square_of (line_of a b))
  divisor_some = mul-le-mul line_some (pow_pos (shift_of (square_of (line_of a b))))

  -- for the tangent of either side
  pub side_square : (t : ℤ) → nat_abs t ≡ tangent_of (square_of (line_of a b)) (delta_of a b)
      → square_of (numerator_of (line_of a b) (delta_of a b) (shift_of (square_of (line_of a b))) t) ≤ square_of (line_of a b) * 2 ^ shift_of (square_of (line_of a b)) * (square_of (line_of a b) * 2 ^ shift_of (square_of (line_of a b)))
  side_square t f =
      numerator_square (line_of a b) (delta_of a b) t (shift_of (square_of (line_of a b))) (omega (arith, not_broken a b e))
      (rw f (tangent_square (square_of (line_of a b)) (delta_of a b)))

  side_around : (t : ℤ) → nat_abs t ≡ tangent_of (square_of (line_of a b)) (delta_of a b) → About (centre_of a) (side_of a b t).a × About (centre_of b) (side_of a b t).b
  unfolding side_of
  side_around t f = (contact_about _ _ a divisor_some (side_square t f) h, contact_about _ _ b divisor_some (side_square t f) k)

  pub section_around : Around (section_of a b)
  unfolding section_of
  section_around =
      let t = tangent_of (square_of (line_of a b)) (delta_of a b) in
      let l = side_around (pos t) refl in
      let r = side_around (neg_ℤ (pos t)) (abs_neg (pos t)) in
      record { a = h; b = k; left_a = l.0; left_b = l.1; right_a = r.0; right_b = r.1 }
