-- A contact of a radius of 1 or more is never its centre. Assumes nothing.
use mathlib.Core.Path.{◌≡◌, refl, sym, ap, ◌∙◌}
use mathlib.Core.Bool.{Bool, true, false, true≢false}
use Prim.Native.Nat.{ℕ, ◌+◌, ◌-◌, ◌*◌, ◌/◌, ◌^◌, ◌≤◌, ◌<◌}
use native.Mathlib.Nat.{mul-le-mul_right, le_trans, le-div_iff_mul-le, lt_of_not-le, add-mul, mul_assoc, mul_comm}
use native.Mathlib.Decide.{dec_le}
use native.Mathlib.Omega.{arith}
use lib.Count.{count_leading_zeros, leading_top}
use lib.IntN.{ℤ, pos, nat_abs, ◌+ℤ◌, ◌-ℤ◌, ◌*ℤ◌, +ℤ-neg_ℤ_cancel}
use lib.Pow.{pow_mono, pow-add}
use Rattle.whole.proofs.Signed.{mul_right_commℤ, add_commℤ}
use Rattle.whole.proofs.Sizes.{abs_mul}
use Rattle.whole.proofs.Squares.{square_next, square_most, square_double, four_power, scaled_square, rotated_sizes}
use Rattle.number.specs.MulDiv.{nearest_of, mul_div_of}
use Rattle.number.proofs.Roots.{root_is}
use Rattle.number.proofs.Nearest.{mul-div_sign, sign_size, apart}
use Rattle.plane.specs.Vectors.{same_point, square_of}
use Rattle.plane.specs.declared.Point.{Point}
use Rattle.plane.specs.declared.Vector.{Vector}
use Rattle.turning.proofs.Rays.{level, same_self, same_point_lem}
use Rattle.contacts.specs.Contacts.{centre_of, shift_of, tangent_of, numerator_of, contact_of}
use Rattle.contacts.specs.declared.Vertex.{Vertex}
use Rattle.contacts.proofs.Contacts.{tangent_square}

-- ---- the numerator is about as long as the divisor

-- the shift makes the squared length large
shift_least : (sq : ℕ) → 0 < sq → sq ≤ 2 ^ 59 → 2 ^ 60 ≤ sq * 4 ^ shift_of sq
unfolding shift_of
shift_least sq h k =
    let top = leading_top 64 sq h (omega arith) in
    let j = top.0 in
    let s = (count_leading_zeros 64 sq - 1) / 2 in
    let e : 2 ^ j * 2 ^ (2 * s) ≤ sq * 2 ^ (2 * s) = mul-le-mul_right (2 ^ (2 * s)) top.2 in
    let f : 60 ≤ j + 2 * s = omega (arith, top.1) in
    rw (four_power s) (le_trans (pow_mono {i = 60} {j = j + 2 * s} f) (rw (pow-add 2 j (2 * s)) e))

tangent_high : (sq : ℕ) (delta : ℤ) → (sq - nat_abs delta * nat_abs delta) * 4 ^ shift_of sq < (tangent_of sq delta + 1) * (tangent_of sq delta + 1)
unfolding tangent_of
tangent_high sq delta = (root_is ((sq - nat_abs delta * nat_abs delta) * 4 ^ shift_of sq)).high

-- sq for the squared length, d for delta's square, q for 4 ^ shift, t for the tangent: what the numerator's square is made of
lengths : (sq d q t : ℕ) → d < sq → (sq - d) * q < (t + 1) * (t + 1) → t * t ≤ (sq - d) * q → 2 ^ 60 ≤ sq * q → sq * q ≤ 2 * (d * q + t * t)
lengths sq d q t h k l m = go (dec_le (4 * t) (2 ^ 59))
  where
    e : sq * q ≡ d * q + (sq - d) * q
    e = ap (λ (n : ℕ). n * q) (let f : sq ≡ d + (sq - d) = omega (arith, h) in f) ∙ add-mul d (sq - d) q

    go : Dec (4 * t ≤ 2 ^ 59) → sq * q ≤ 2 * (d * q + t * t)
    go (yes f) = omega (arith, e, k, l, m, f, square_next t)
    go (no f) = omega (arith, e, k, l, square_next t, mul-le-mul_right t (let g : 4 ≤ t = omega (arith, lt_of_not-le f) in g))

-- on either side
pub numerator_least : (v : Vector) (delta t : ℤ) → nat_abs delta * nat_abs delta < square_of v → square_of v ≤ 2 ^ 59 → nat_abs t ≡ tangent_of (square_of v) delta
    → square_of v * 2 ^ shift_of (square_of v) * (square_of v * 2 ^ shift_of (square_of v)) ≤ 2 * square_of (numerator_of v delta (shift_of (square_of v)) t)
unfolding square_of numerator_of
numerator_least v delta t h l f =
    let sq = square_of v in
    let k = shift_of sq in
    let p = 2 ^ k in
    let e = rotated_sizes (delta *ℤ pos p) t v.x v.y in
    let c : nat_abs (delta *ℤ pos p) * nat_abs (delta *ℤ pos p) ≡ nat_abs delta * nat_abs delta * 4 ^ k = rw (abs_mul delta (pos p)) (scaled_square (nat_abs delta) k) in
    let g = lengths sq (nat_abs delta * nat_abs delta) (4 ^ k) (nat_abs t) h (rw f (tangent_high sq delta)) (rw f (tangent_square sq delta)) (shift_least sq (omega (arith, h)) l) in
    rw (mul_right_commℤ delta v.x (pos p), mul_right_commℤ delta v.y (pos p), add_commℤ (delta *ℤ pos p *ℤ v.y) (t *ℤ v.x), e, c, scaled_square sq k)
    (omega (arith, mul-le-mul_right sq g, mul_assoc sq sq (4 ^ k), mul_comm sq (sq * 4 ^ k), mul_assoc 2 (nat_abs delta * nat_abs delta * 4 ^ k + nat_abs t * nat_abs t) sq))

-- ---- one of its parts is half of the divisor or more, and comes to 1 or more

nearest_some : (n d : ℕ) → 0 < d → d ≤ 2 * n → 0 < nearest_of n d
unfolding nearest_of
nearest_some n d h k = (le-div_iff_mul-le {k = 2 * d} {x = 1} {y = 2 * n + d} (omega (arith, h))).1 (omega (arith, k))

part_some : (r n : ℤ) (d : ℕ) → 0 < d → 1 ≤ nat_abs r → d ≤ 2 * nat_abs n → 0 < nat_abs (mul_div_of r n d)
part_some r n d h k l =
    rw (mul-div_sign r n d h, sign_size (apart r n) (nearest_of (nat_abs r * nat_abs n) d))
    (nearest_some (nat_abs r * nat_abs n) d h (omega (arith, l, mul-le-mul_right (nat_abs n) k)))

-- a number that adds nothing
no_part : (a m : ℤ) → a +ℤ m ≡ a → nat_abs m ≡ 0
no_part a m e = ap nat_abs (sym (ap (λ (z : ℤ). z -ℤ a) (add_commℤ a m) ∙ +ℤ-neg_ℤ_cancel m a) ∙ ap (λ (z : ℤ). z -ℤ a) e) ∙ ap nat_abs (level a)

halves : (d x y : ℕ) → d * d ≤ 2 * (x * x + y * y) → (2 * x < d) → (2 * y < d) → ⊥
halves d x y h a b = omega (arith, h, square_double x, square_double y, square_most {a = 2 * x + 1} {b = d} (omega (arith, a)), square_most {a = 2 * y + 1} {b = d} (omega (arith, b)), square_next (2 * x), square_next (2 * y))

-- so a contact of a radius of 1 or more is not its centre
pub contact_off : (d : ℕ) (n : Vector) (v : Vertex) → 0 < d → d * d ≤ 2 * square_of n → 1 ≤ nat_abs v.radius → same_point (contact_of d n v) (centre_of v) ≡ false
unfolding square_of centre_of contact_of
contact_off d n v h k r = go (same_point (contact_of d n v) (centre_of v)) refl
  where
    go : (x : Bool) → same_point (contact_of d n v) (centre_of v) ≡ x → x ≡ false
    go false e = refl
    go true e =
        let p = same_point_lem (contact_of d n v) (centre_of v) e in
        let a = no_part v.x (mul_div_of v.radius n.x d) (ap (λ (q : Point). q.x) p) in
        let b = no_part v.y (mul_div_of v.radius n.y d) (ap (λ (q : Point). q.y) p) in
        absurd (halves d (nat_abs n.x) (nat_abs n.y) k (below n.x a) (below n.y b))
      where
        below : (z : ℤ) → nat_abs (mul_div_of v.radius z d) ≡ 0 → 2 * nat_abs z < d
        below z f = case (dec_le d (2 * nat_abs z))
          where
            case : Dec (d ≤ 2 * nat_abs z) → 2 * nat_abs z < d
            case (yes g) = absurd (omega (arith, f, part_some v.radius z d h r g))
            case (no g) = lt_of_not-le g

-- ---- points that differ

same_all : (p : Point) → same_point p p ≡ true
unfolding same_point
same_all p = rw (same_self p.x, same_self p.y)

pub apart_back : (p q : Point) → same_point p q ≡ false → same_point q p ≡ false
apart_back p q h = go (same_point q p) refl
  where
    go : (x : Bool) → same_point q p ≡ x → x ≡ false
    go false e = refl
    go true e = absurd (true≢false (sym (same_all p) ∙ (rw (same_point_lem q p e) at h)))
