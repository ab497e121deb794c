-- A direction that turns within the quarter before another comes on with each rotation, and hardly shrinks. Assumes nothing.
use mathlib.Core.Path.{◌≡◌, refl, sym, ap, ◌∙◌}
use Prim.Native.Nat.{ℕ, ◌+◌, ◌-◌, ◌*◌, ◌^◌, ◌≤◌}
use native.Mathlib.Nat.{mul-le-mul, mul-le-mul_left, mul-le-mul_right, mul-add, add-mul, add_assoc, add_left_comm}
use native.Mathlib.Omega.{arith}
use lib.IntN.{ℤ, pos, neg_ℤ, nat_abs, ◌+ℤ◌, ◌-ℤ◌, ◌*ℤ◌, neg_ℤ-+ℤ, neg_ℤ-neg_ℤ}
use lib.Signed.{◌≤ℤ◌}
use Rattle.whole.proofs.Signed.{up, down, abs_is, le_from, up-mul, down-mul, add_balance, up-neg, down-neg, mul_addℤ, add_mulℤ, mul_negℤ, neg_mulℤ, mul_commℤ, mul_assocℤ, mul_left_commℤ, add_assocℤ, add_commℤ, add_left_commℤ}
use Rattle.whole.proofs.Sizes.{abs_neg}
use Rattle.whole.proofs.Squares.{square_le, rotated_sizes}
use Rattle.plane.specs.Vectors.{cross_of, dot_of, square_of}
use Rattle.plane.specs.Directions.{rotated_of, UnitLong}
use Rattle.plane.specs.declared.Vector.{Vector}
use Rattle.plane.proofs.Norms.{Most, square_sum, sum_most, multiple, most_scaled, most_product, most_turned}
use Rattle.plane.proofs.Leeway.{unit_most, rest_of, turned_x, turned_y, rest_most}
use Rattle.plane.proofs.Directions.{turned_unit}

-- ---- products of a turned direction with another

dot_turned : (c s u v x y : ℤ) → (c *ℤ u -ℤ s *ℤ v) *ℤ x +ℤ (s *ℤ u +ℤ c *ℤ v) *ℤ y ≡ c *ℤ (u *ℤ x +ℤ v *ℤ y) +ℤ s *ℤ (u *ℤ y -ℤ v *ℤ x)
dot_turned c s u v x y = simp (mul_addℤ, add_mulℤ, mul_negℤ, neg_mulℤ, mul_assocℤ, add_assocℤ, add_commℤ, add_left_commℤ) refl

cross_turned : (c s u v x y : ℤ) → (c *ℤ u -ℤ s *ℤ v) *ℤ y -ℤ (s *ℤ u +ℤ c *ℤ v) *ℤ x ≡ c *ℤ (u *ℤ y -ℤ v *ℤ x) -ℤ s *ℤ (u *ℤ x +ℤ v *ℤ y)
cross_turned c s u v x y = simp (mul_addℤ, add_mulℤ, mul_negℤ, neg_mulℤ, mul_assocℤ, neg_ℤ-+ℤ, add_assocℤ, add_commℤ, add_left_commℤ) refl

dot_parts : (a b i j x y n : ℤ) → (a *ℤ n +ℤ i) *ℤ x +ℤ (b *ℤ n +ℤ j) *ℤ y ≡ (a *ℤ x +ℤ b *ℤ y) *ℤ n +ℤ (i *ℤ x +ℤ j *ℤ y)
dot_parts a b i j x y n = simp (add_mulℤ, mul_commℤ, mul_left_commℤ, add_assocℤ, add_commℤ, add_left_commℤ) refl

cross_parts : (a b i j x y n : ℤ) → (a *ℤ n +ℤ i) *ℤ y -ℤ (b *ℤ n +ℤ j) *ℤ x ≡ (a *ℤ y -ℤ b *ℤ x) *ℤ n +ℤ (i *ℤ y -ℤ j *ℤ x)
cross_parts a b i j x y n = simp (add_mulℤ, neg_mulℤ, neg_ℤ-+ℤ, mul_commℤ, mul_left_commℤ, add_assocℤ, add_commℤ, add_left_commℤ) refl

pub turned_dot : (t d e : Vector) → dot_of (rotated_of t d) e *ℤ pos (2 ^ 30) +ℤ dot_of (rest_of t d) e ≡ t.x *ℤ dot_of d e +ℤ t.y *ℤ cross_of d e
unfolding dot_of cross_of
turned_dot t d e =
    sym (dot_parts (rotated_of t d).x (rotated_of t d).y (rest_of t d).x (rest_of t d).y e.x e.y (pos (2 ^ 30)))
    ∙ (λ i. turned_x t d i *ℤ e.x +ℤ turned_y t d i *ℤ e.y)
    ∙ dot_turned t.x t.y d.x d.y e.x e.y

pub turned_cross : (t d e : Vector) → cross_of (rotated_of t d) e *ℤ pos (2 ^ 30) +ℤ cross_of (rest_of t d) e ≡ t.x *ℤ cross_of d e -ℤ t.y *ℤ dot_of d e
unfolding dot_of cross_of
turned_cross t d e =
    sym (cross_parts (rotated_of t d).x (rotated_of t d).y (rest_of t d).x (rest_of t d).y e.x e.y (pos (2 ^ 30)))
    ∙ (λ i. turned_x t d i *ℤ e.y -ℤ turned_y t d i *ℤ e.x)
    ∙ cross_turned t.x t.y d.x d.y e.x e.y

-- what the divisions leave comes to 3 * 2 ^ 59 at most in each product
pub rests : (t d e : Vector) → UnitLong e → Most (3 * 2 ^ 29 * 2 ^ 30) (cross_of (rest_of t d) e) (dot_of (rest_of t d) e)
unfolding cross_of dot_of
rests t d e h = record { most = rw (add_commℤ ((rest_of t d).x *ℤ e.x) ((rest_of t d).y *ℤ e.y)) (most_product (rest_of t d).x (rest_of t d).y e.y e.x (rest_most t d) (most_turned (unit_most e h))).most }

-- ---- what a rotation adds: p and q are the dot and cross product with the end, u and v those after it, c and s the step's parts, f its excess

-- a product with 2 ^ 30
lifted : (u : ℤ) → (up (u *ℤ pos (2 ^ 30)) ≡ up u * 2 ^ 30) × (down (u *ℤ pos (2 ^ 30)) ≡ down u * 2 ^ 30)
lifted u = (up-mul u (pos (2 ^ 30)) ∙ omega arith, down-mul u (pos (2 ^ 30)) ∙ omega arith)

first_lifted : (u r : ℤ) (m : ℕ) → u *ℤ pos (2 ^ 30) +ℤ r ≡ pos m → up u * 2 ^ 30 + up r ≡ down u * 2 ^ 30 + down r + m
first_lifted u r m e =
    let b = add_balance (u *ℤ pos (2 ^ 30)) r in
    let l = lifted u in
    omega (arith, b, l.0, l.1, ap up e, ap down e)

second_lifted : (v k : ℤ) (m n : ℕ) → v *ℤ pos (2 ^ 30) +ℤ k ≡ pos m -ℤ pos n → up v * 2 ^ 30 + up k + n ≡ down v * 2 ^ 30 + down k + m
second_lifted v k m n e =
    let b = add_balance (v *ℤ pos (2 ^ 30)) k in
    let l = lifted v in
    omega (arith, b, l.0, l.1, ap up e, ap down e, add_balance (pos m) (neg_ℤ (pos n)), up-neg (pos n), down-neg (pos n))

gain : (c s f p q : ℕ) → c ≤ 2 ^ 30 → c + s ≡ 2 ^ 30 + f → 2 ^ 60 ≤ p + q + 2 ^ 44
    → p * 2 ^ 30 + c * q + f * (2 ^ 60 - 2 ^ 44) ≤ q * 2 ^ 30 + c * p + s * q + s * p
gain c s f p q hc hf hl =
    let a : c * q ≤ 2 ^ 30 * q = mul-le-mul_right q hc in
    let b : (c + s) * (p + q) ≡ (2 ^ 30 + f) * (p + q) = ap (λ (n : ℕ). n * (p + q)) hf in
    let g : (c + s) * (p + q) ≡ c * p + c * q + (s * p + s * q) = simp (mul-add, add-mul, add_assoc, add_left_comm) refl in
    let m : f * (2 ^ 60 - 2 ^ 44) ≤ f * (p + q) = mul-le-mul_left f (let l : 2 ^ 60 - 2 ^ 44 ≤ p + q = omega (arith, hl) in l) in
    omega (arith, a, b, g, m, add-mul (2 ^ 30) f (p + q))

-- the dot product less the cross product grows
pub grows : (c s f p q : ℕ) (u v r k : ℤ) → c ≤ 2 ^ 30 → c + s ≡ 2 ^ 30 + f → 3 * 2 ^ 16 ≤ f → 2 ^ 60 ≤ p + q + 2 ^ 44
    → u *ℤ pos (2 ^ 30) +ℤ r ≡ pos (c * p + s * q) → v *ℤ pos (2 ^ 30) +ℤ k ≡ pos (c * q) -ℤ pos (s * p)
    → nat_abs r ≤ 3 * 2 ^ 59 → nat_abs k ≤ 3 * 2 ^ 59
    → p + up v + down u + f * (2 ^ 30 - 2 ^ 15) ≤ q + up u + down v
grows c s f p q u v r k hc hf hs hl eu ev hr hk =
    omega (arith, first_lifted u r (c * p + s * q) eu, second_lifted v k (c * q) (s * p) ev, gain c s f p q hc hf hl, abs_is r, abs_is k, hr, hk, hs)

-- and the dot product stays natural
pub ahead : (c s p q : ℕ) (u r : ℤ) → 4 ≤ c → 4 ≤ s → 2 ^ 60 ≤ p + q + 2 ^ 44
    → u *ℤ pos (2 ^ 30) +ℤ r ≡ pos (c * p + s * q) → nat_abs r ≤ 3 * 2 ^ 59 → pos 0 ≤ℤ u
ahead c s p q u r hc hs hl eu hr =
    le_from (pos 0) u
    (omega (arith, first_lifted u r (c * p + s * q) eu, mul-le-mul_right p hc, mul-le-mul_right q hs, hl, abs_is r, hr))

-- ---- lengths

-- the squares of dot and cross product add up to the product of the squared lengths
pub products : (d e : Vector) → nat_abs (dot_of d e) * nat_abs (dot_of d e) + nat_abs (cross_of d e) * nat_abs (cross_of d e) ≡ square_of d * square_of e
unfolding dot_of cross_of square_of
products d e =
    let h = rotated_sizes d.x (neg_ℤ d.y) e.x e.y in
    rw (neg_mulℤ d.y e.y, neg_ℤ-neg_ℤ (d.y *ℤ e.y), neg_mulℤ d.y e.x, add_commℤ (neg_ℤ (d.y *ℤ e.x)) (d.x *ℤ e.y), abs_neg d.y) at h

-- so together they are as large as the lesser of these
pub sum_long : (l p q m n : ℕ) → l ≤ m → l ≤ n → p * p + q * q ≡ m * n → l ≤ p + q
sum_long l p q m n h k e = square_le l (p + q) (omega (arith, mul-le-mul h k, e, square_sum p q))

-- m is the step's square, n the direction's and k that of the turned one
shortened : (m n k : ℕ) → 2 ^ 60 ≤ m + (2 ^ 32 + 1) → n ≤ 2 ^ 60 → m * n ≤ k * 2 ^ 60 + (3 * 2 ^ 29 * (3 * 2 ^ 29) + 2 * (2 ^ 30 * 2 ^ 30 * (3 * 2 ^ 29))) → n ≤ k + 2 ^ 33
shortened m n k h l g = omega (arith, mul-le-mul_right n h, add-mul m (2 ^ 32 + 1) n, l, g)

-- a turn shortens by little: squares by 2 ^ 33 at most
pub shrinks : (t d : Vector) → UnitLong t → UnitLong d → 2 ^ 60 ≤ square_of t + (2 ^ 32 + 1) → square_of d ≤ square_of (rotated_of t d) + 2 ^ 33
unfolding square_of
shrinks t d ht hd hl =
    let v = rotated_of t d in
    let w = rest_of t d in
    let g = sum_most {a = 2 ^ 30 * 2 ^ 30} {b = 3 * 2 ^ 29} (v.x *ℤ pos (2 ^ 30)) (v.y *ℤ pos (2 ^ 30)) w.x w.y (most_scaled (2 ^ 30) v.x v.y (unit_most v (turned_unit ht hd))) (rest_most t d) in
    let f = rw (turned_x t d, turned_y t d, rotated_sizes t.x t.y d.x d.y, multiple v.x v.y (2 ^ 30)) at g in
    shortened (square_of t) (square_of d) (square_of v) hl hd.length (omega (arith, f))
