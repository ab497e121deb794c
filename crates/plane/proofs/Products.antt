-- What products of vectors within the limits come to fits an i64. Assumes nothing.
use mathlib.Core.Path.{◌≡◌, refl, ap}
use mathlib.Core.Bool.{Bool, true, false, ◌&&◌}
use Prim.Native.Nat.{ℕ, suc, ◌-◌, ◌*◌, ◌^◌, ◌≤◌, ◌<◌}
use native.Mathlib.Nat.{mul-le-mul}
use native.Mathlib.Omega.{arith}
use borrow.Author.Tests.{eq-eqb, ne_eqb, eqb-true, eqb-false}
use lib.Dec.{eqb}
use lib.IntN.{ℤ, pos, negsuc, nat_abs, ◌+ℤ◌, ◌-ℤ◌, ◌*ℤ◌}
use lib.Signed.{mag}
use Rattle.std.specs.Ordering.{int_eq}
use Rattle.std.proofs.lemmas.Bool.Decides.{same_from_decides, Decides-like, Decides-eqb, Decides-int_eq}
use mir.Syntax.{w64}
use mir.Val.{SFits, to_z, of_z}
use mir.Facts.{to_z-of_z}
use Rattle.whole.specs.Sizes.{Size}
use Rattle.whole.proofs.Sizes.{size_mul, size_add, size_sub, size_fits}
use Rattle.plane.specs.Vectors.{Near, Short, same_number, same_point, from_to, cross_of, dot_of, square_of}
use Rattle.plane.specs.declared.Point.{Point}
use Rattle.plane.specs.declared.Vector.{Vector}

-- ---- for `search (needs, products)`: each need of a product's expression

pub product_fits : {a b : ℤ} → Size (2 ^ 30) a → Size (2 ^ 30) b → SFits w64 (a *ℤ b)
product_fits h k = size_fits (2 ^ 60) w64 _ (size_mul (2 ^ 30) (2 ^ 30) _ _ h k) tt

pub sum_fits : {a b c d : ℤ} → Size (2 ^ 30) a → Size (2 ^ 30) b → Size (2 ^ 30) c → Size (2 ^ 30) d → SFits w64 (a *ℤ b +ℤ c *ℤ d)
sum_fits h k i j = size_fits (2 ^ 61) w64 _ (size_add (2 ^ 60) (2 ^ 60) _ _ (size_mul (2 ^ 30) (2 ^ 30) _ _ h k) (size_mul (2 ^ 30) (2 ^ 30) _ _ i j)) tt

pub difference_fits : {a b c d : ℤ} → Size (2 ^ 30) a → Size (2 ^ 30) b → Size (2 ^ 30) c → Size (2 ^ 30) d → SFits w64 (a *ℤ b -ℤ c *ℤ d)
difference_fits h k i j = size_fits (2 ^ 61) w64 _ (size_sub (2 ^ 60) (2 ^ 60) _ _ (size_mul (2 ^ 30) (2 ^ 30) _ _ h k) (size_mul (2 ^ 30) (2 ^ 30) _ _ i j)) tt

pub way_fits : {a b : ℤ} → Size (2 ^ 29) a → Size (2 ^ 29) b → SFits w64 (b -ℤ a)
way_fits h k = size_fits (2 ^ 30) w64 _ (size_sub (2 ^ 29) (2 ^ 29) _ _ k h) tt

pub ruleset products = (product_fits, sum_fits, difference_fits, way_fits)

-- a field within the limits fits
pub short_fits : {a : ℤ} → Size (2 ^ 30) a → SFits w64 a
short_fits h = size_fits (2 ^ 30) w64 _ h tt

pub near_fits : {a : ℤ} → Size (2 ^ 29) a → SFits w64 a
near_fits h = size_fits (2 ^ 29) w64 _ h tt

pub small_fits : {a : ℤ} → Size (2 ^ 28) a → SFits w64 a
small_fits h = size_fits (2 ^ 28) w64 _ h tt

-- a number that went through its bits and back
abbrev pub bits : ℤ → ℤ
bits a = to_z w64 (of_z w64 a)

pub back : {a : ℤ} → SFits w64 a → bits a ≡ a
back h = to_z-of_z h

pub size_back : {n : ℕ} {a : ℤ} → SFits w64 a → Size n a → Size n (bits a)
size_back h k = rw (back h) k

pub short_back : {a : ℤ} → Size (2 ^ 30) a → Size (2 ^ 30) (bits a)
short_back h = size_back (short_fits h) h

pub near_back : {a : ℤ} → Size (2 ^ 29) a → Size (2 ^ 29) (bits a)
near_back h = size_back (near_fits h) h

pub small_back : {a : ℤ} → Size (2 ^ 28) a → Size (2 ^ 28) (bits a)
small_back h = size_back (small_fits h) h

-- the way between two near points is short
pub from_to_short : {p q : Point} → Near p → Near q → Short (from_to p q)
unfolding from_to
from_to_short {p} {q} h k = record { x = size_sub (2 ^ 29) (2 ^ 29) _ _ k.x h.x; y = size_sub (2 ^ 29) (2 ^ 29) _ _ k.y h.y }

-- and its squared length is at most 2^61
pub part_square : {a : ℤ} → Size (2 ^ 30) a → nat_abs a * nat_abs a ≤ 2 ^ 60
part_square h = mul-le-mul {n₂ = 2 ^ 30} {m₂ = 2 ^ 30} h.size h.size

pub square_most : {v : Vector} → Short v → square_of v ≤ 2 ^ 61
unfolding square_of
square_most {v} h = omega (arith, part_square h.x, part_square h.y)

-- and a cross product of two such
pub cross_size : {u v : Vector} → Short u → Short v → Size (2 ^ 61) (cross_of u v)
unfolding cross_of
cross_size h k = size_sub (2 ^ 60) (2 ^ 60) _ _ (size_mul (2 ^ 30) (2 ^ 30) _ _ h.x k.y) (size_mul (2 ^ 30) (2 ^ 30) _ _ h.y k.x)

-- ---- from what the code has computed on bits to the definitions

pub factor_back : {a r : ℤ} → Size (2 ^ 30) a → r ≡ bits a → bits r ≡ a
factor_back h e = rw (e, back (short_fits h)) (back (short_fits h))

pub product_back : {a b r : ℤ} → Size (2 ^ 30) a → Size (2 ^ 30) b → r ≡ bits a *ℤ bits b → bits r ≡ a *ℤ b
product_back h k e = rw (e, back (short_fits h), back (short_fits k)) (back (product_fits h k))

module _ (u v : Vector) (r : ℤ) (h : Short u) (k : Short v) where
  pub cross_back : r ≡ bits u.x *ℤ bits v.y -ℤ bits u.y *ℤ bits v.x → bits r ≡ cross_of u v
  unfolding cross_of
  cross_back e =
      let f : r ≡ u.x *ℤ v.y -ℤ u.y *ℤ v.x = rw (back (short_fits h.x), back (short_fits h.y), back (short_fits k.x), back (short_fits k.y)) at e in
      rw f (back (difference_fits h.x k.y h.y k.x))

  pub dot_back : r ≡ bits u.x *ℤ bits v.x +ℤ bits u.y *ℤ bits v.y → bits r ≡ dot_of u v
  unfolding dot_of
  dot_back e =
      let f : r ≡ u.x *ℤ v.x +ℤ u.y *ℤ v.y = rw (back (short_fits h.x), back (short_fits h.y), back (short_fits k.x), back (short_fits k.y)) at e in
      rw f (back (sum_fits h.x k.x h.y k.y))

way_back : (a b r : ℤ) → Size (2 ^ 29) a → Size (2 ^ 29) b → r ≡ bits b -ℤ bits a → bits r ≡ b -ℤ a
way_back a b r h k e =
    let f : r ≡ b -ℤ a = rw (back (near_fits h), back (near_fits k)) at e in
    rw f (back (way_fits h k))

pub from_to_back : (p q : Point) (r s : ℤ) → Near p → Near q → r ≡ bits q.x -ℤ bits p.x → s ≡ bits q.y -ℤ bits p.y → record { x = bits r; y = bits s } ≡ from_to p q
unfolding from_to
from_to_back p q r s h k e f = λ i. record { x = way_back p.x q.x r h.x k.x e i; y = way_back p.y q.y s h.y k.y f i }

-- ---- the bits are equal exactly where the numbers are

neg-bits : (m n : ℕ) → m < 2 ^ 63 → n < 2 ^ 63 → (t : Bool) → eqb m n ≡ t → eqb (2 ^ 64 - suc m) (2 ^ 64 - suc n) ≡ t
neg-bits m n hm hn true e = eq-eqb _ _ (ap (λ k. 2 ^ 64 - suc k) (eqb-true m n e))
neg-bits m n hm hn false e = ne_eqb _ _ (λ (h : 2 ^ 64 - suc m ≡ 2 ^ 64 - suc n). eqb-false m n e (omega (arith, h)))

pub eq_bits : (a b : ℤ) → mag a < 2 ^ 63 → mag b < 2 ^ 63 → eqb (of_z w64 a) (of_z w64 b) ≡ same_number a b
unfolding same_number
eq_bits (pos m) (pos n) ha hb = refl
eq_bits (pos m) (negsuc n) ha hb = ne_eqb _ _ (λ (h : m ≡ 2 ^ 64 - suc n). omega (arith, h))
eq_bits (negsuc m) (pos n) ha hb = ne_eqb _ _ (λ (h : 2 ^ 64 - suc m ≡ n). omega (arith, h))
eq_bits (negsuc m) (negsuc n) ha hb = neg-bits m n ha hb (eqb m n) refl

-- what the points' own test tells
eq_same : (a b : ℤ) → int_eq a b ≡ same_number a b
unfolding same_number
eq_same (pos m) (pos n) = same_from_decides _ _ (Decides-int_eq (pos m) (pos n)) (Decides-like (eqb m n) (λ e. ap pos e) (λ (h : pos m ≡ pos n). (cc)) (Decides-eqb m n))
eq_same (pos m) (negsuc n) = refl
eq_same (negsuc m) (pos n) = refl
eq_same (negsuc m) (negsuc n) = same_from_decides _ _ (Decides-int_eq (negsuc m) (negsuc n)) (Decides-like (eqb m n) (λ e. ap negsuc e) (λ (h : negsuc m ≡ negsuc n). (cc)) (Decides-eqb m n))

pub same_told : (p q : Point) {r : Bool} → r ≡ int_eq p.x q.x && int_eq p.y q.y → r ≡ same_point p q
unfolding same_point
same_told p q e = rw (← eq_same p.x q.x, ← eq_same p.y q.y) e
