-- The two ends of a cap are both its centre or both not: a contact of a radius of 1 or more never is, one of radius 0 always. Assumes nothing.
use mathlib.Core.Path.{◌≡◌, refl, sym, ap, ◌∙◌}
use mathlib.Core.Bool.{Bool, true, false, not}
use Prim.Native.Nat.{ℕ, ◌+◌, ◌*◌, ◌^◌, ◌≤◌, ◌<◌}
use native.Mathlib.Nat.{lt_of_not-le}
use native.Mathlib.Decide.{dec_le}
use native.Mathlib.Omega.{arith}
use lib.IntN.{ℤ, pos, neg_ℤ, nat_abs, ◌+ℤ◌}
use Rattle.whole.proofs.Signed.{ext, abs_is, add_balance}
use Rattle.whole.proofs.Sizes.{abs_neg}
use Rattle.whole.proofs.Squares.{square_le}
use Rattle.number.specs.MulDiv.{mul_div_of}
use Rattle.number.proofs.Nearest.{mul-div_pair}
use Rattle.plane.specs.Vectors.{same_point, square_of}
use Rattle.plane.specs.declared.Point.{Point}
use Rattle.plane.specs.declared.Vector.{Vector}
use Rattle.contacts.specs.Contacts.{centre_of, line_of, delta_of, shift_of, tangent_of, numerator_of, contact_of, side_of, section_of, broken_of}
use Rattle.contacts.specs.Bounds.{Inside}
use Rattle.contacts.specs.declared.Vertex.{Vertex}
use Rattle.contacts.proofs.Contacts.{line_is, line_square, not_broken, divisor_some, side_square}
use Rattle.contacts.proofs.OffCentre.{numerator_least, contact_off}
use Rattle.closing.specs.Closing.{one_at_centre}
use Rattle.closing.proofs.Chained.{Even}

-- ---- two contacts of one vertex

one_same : (c p : Point) → one_at_centre c p p ≡ false
unfolding one_at_centre
one_same c p = go (same_point p c) refl
  where
    go : (x : Bool) → same_point p c ≡ x → one_at_centre c p p ≡ false
    go true e = rw (e, one_at_centre) (ap not e)
    go false e = rw (e, one_at_centre) e

one_neither : (c p q : Point) → same_point p c ≡ false → same_point q c ≡ false → one_at_centre c p q ≡ false
unfolding one_at_centre
one_neither c p q e f = rw (e, one_at_centre) f

no_offset : (a m : ℤ) → nat_abs m ≡ 0 → a +ℤ m ≡ a
no_offset a m e = ext _ _ (omega (arith, add_balance a m, abs_is m, e))

none : (n : ℕ) → n * n < 1 → n ≡ 0
none n h = let k = square_le n 0 (omega (arith, h)) in omega (arith, k)

contact_on : (d : ℕ) (n : Vector) (v : Vertex) → 0 < d → square_of n ≤ d * d → nat_abs v.radius ≡ 0 → contact_of d n v ≡ centre_of v
unfolding square_of centre_of contact_of
contact_on d n v h k r =
    let g = mul-div_pair v.radius n.x n.y d h k in
    let a : nat_abs (mul_div_of v.radius n.x d) * nat_abs (mul_div_of v.radius n.x d) + nat_abs (mul_div_of v.radius n.y d) * nat_abs (mul_div_of v.radius n.y d) < 1 = rw r at g in
    λ i. record {
      x = no_offset v.x (mul_div_of v.radius n.x d) (none (nat_abs (mul_div_of v.radius n.x d)) (omega (arith, a))) i;
      y = no_offset v.y (mul_div_of v.radius n.y d) (none (nat_abs (mul_div_of v.radius n.y d)) (omega (arith, a))) i;
    }

contacts_even : (d : ℕ) (l r : Vector) (v : Vertex) → 0 < d → square_of l ≤ d * d → square_of r ≤ d * d → d * d ≤ 2 * square_of l → d * d ≤ 2 * square_of r
    → one_at_centre (centre_of v) (contact_of d l v) (contact_of d r v) ≡ false
contacts_even d l r v h kl kr ml mr = go (dec_le 1 (nat_abs v.radius))
  where
    go : Dec (1 ≤ nat_abs v.radius) → one_at_centre (centre_of v) (contact_of d l v) (contact_of d r v) ≡ false
    go (yes f) = one_neither (centre_of v) (contact_of d l v) (contact_of d r v) (contact_off d l v h ml f) (contact_off d r v h mr f)
    go (no f) =
        let z : nat_abs v.radius ≡ 0 = omega (arith, lt_of_not-le f) in
        ap (λ (q : Point). one_at_centre (centre_of v) (contact_of d l v) q) (contact_on d r v h kr z ∙ sym (contact_on d l v h kl z)) ∙ one_same (centre_of v) (contact_of d l v)

-- ---- the caps of a section

pub section_even : (a b : Vertex) → Inside a → Inside b → broken_of a b ≡ false → Even (section_of a b)
unfolding section_of side_of
section_even a b ha hb e =
    let v = line_of a b in
    let delta = delta_of a b in
    let t = tangent_of (square_of v) delta in
    let sq = line_square (line_is ha hb) in
    let d = divisor_some ha hb e in
    let kl = side_square ha hb e (pos t) refl in
    let kr = side_square ha hb e (neg_ℤ (pos t)) (abs_neg (pos t)) in
    let ml = numerator_least v delta (pos t) (not_broken a b e) sq refl in
    let mr = numerator_least v delta (neg_ℤ (pos t)) (not_broken a b e) sq (abs_neg (pos t)) in
    record {
      a = contacts_even (square_of v * 2 ^ shift_of (square_of v)) (numerator_of v delta (shift_of (square_of v)) (pos t)) (numerator_of v delta (shift_of (square_of v)) (neg_ℤ (pos t))) a d kl kr ml mr;
      b = contacts_even (square_of v * 2 ^ shift_of (square_of v)) (numerator_of v delta (shift_of (square_of v)) (neg_ℤ (pos t))) (numerator_of v delta (shift_of (square_of v)) (pos t)) b d kr kl mr ml;
    }
