-- Rays from a centre to the points about it: how long they are, and where they are not of no length. Assumes nothing.
use mathlib.Core.Path.{◌≡◌, refl, sym, ap, ◌∙◌}
use mathlib.Core.Bool.{Bool, true, false, ◌&&◌, ◌||◌, true≢false}
use Prim.Native.Nat.{ℕ, zero, suc, ◌+◌, ◌*◌, ◌^◌, ◌<◌}
use native.Mathlib.Nat.{mul-le-mul, lt_of_le_of_lt}
use native.Mathlib.Omega.{arith}
use borrow.Author.Tests.{eq-eqb, eqb-true, le-ltb}
use lib.IntN.{ℤ, pos, negsuc, neg_ℤ, nat_abs, ◌+ℤ◌, ◌-ℤ◌}
use lib.Signed.{le_z}
use mir.Syntax.{w64}
use mir.Val.{to_z}
use mir.Facts.{to_z_pos}
use Rattle.whole.specs.Sizes.{Size}
use Rattle.whole.proofs.Signed.{ext, abs_is, le_from, add_balance, up-neg, down-neg}
use Rattle.whole.proofs.Sizes.{abs_neg}
use Rattle.whole.proofs.Order.{le_false}
use Rattle.whole.proofs.Squares.{below_next}
use Rattle.number.specs.Root.{root_of}
use Rattle.number.proofs.Roots.{root_is}
use Rattle.plane.specs.Vectors.{Near, Short, same_number, same_point, from_to, square_of}
use Rattle.plane.specs.Directions.{UnitLong, part_of, component_of, direction_of}
use Rattle.plane.proofs.Directions.{direction_unit, part_only}
use Rattle.plane.specs.declared.Point.{Point}
use Rattle.plane.specs.declared.Vector.{Vector}
use Rattle.turning.specs.Arcs.{empty_of, ring_of, east_of, west_of}
use Rattle.turning.specs.Bounds.{Centre, Radius, About}
use Rattle.turning.specs.declared.Sweep.{Sweep}
use Rattle.turning.specs.declared.Sweep.TheVariants.{Minor, Major}
use Rattle.turning.proofs.Limits.{sum_near}

-- ---- sums that fall together

again : (a b : ℤ) → b +ℤ (a -ℤ b) ≡ a
again a b = ext _ _ (omega (arith, add_balance b (a -ℤ b), add_balance a (neg_ℤ b), up-neg b, down-neg b))

ahead : (a b : ℤ) → a +ℤ b -ℤ a ≡ b
ahead a b = ext _ _ (omega (arith, add_balance (a +ℤ b) (neg_ℤ a), add_balance a b, up-neg a, down-neg a))

behind : (a b : ℤ) → a -ℤ b -ℤ a ≡ neg_ℤ b
behind a b = ext _ _ (omega (arith, add_balance (a -ℤ b) (neg_ℤ a), add_balance a (neg_ℤ b), up-neg a, down-neg a))

pub level : (a : ℤ) → a -ℤ a ≡ pos 0
level a = ext _ _ (omega (arith, add_balance a (neg_ℤ a), up-neg a, down-neg a))

-- ---- a point about a centre

module _ {c p : Point} (h : About c p) where
  ray_x : Size (2 ^ 28) (from_to c p).x
  unfolding square_of
  ray_x = record { size = below_next (nat_abs (from_to c p).x) (2 ^ 28) (omega (arith, h.within)) }

  ray_y : Size (2 ^ 28) (from_to c p).y
  unfolding square_of
  ray_y = record { size = below_next (nat_abs (from_to c p).y) (2 ^ 28) (omega (arith, h.within)) }

  pub about_short : Short (from_to c p)
  about_short = record { x = record { size = omega (arith, ray_x.size) }; y = record { size = omega (arith, ray_y.size) } }

  pub about_near : Centre c → Near p
  unfolding from_to
  about_near k = record { x = rw (again p.x c.x) at (sum_near k.x ray_x); y = rw (again p.y c.y) at (sum_near k.y ray_y) }

  -- the circle through it, or just inside it
  pub ring_radius : Radius (ring_of (from_to c p))
  unfolding ring_of
  ring_radius =
      let s = square_of (from_to c p) in
      record { low = le_from (pos 0) (pos (root_of s)) (omega arith); high = below_next (root_of s) (2 ^ 28) (lt_of_le_of_lt (root_is s).low h.within) }

  -- from what the code has computed: m is the ray, s its squared length, n the root
  pub ring_told : {m : Vector} {s n : ℕ} → m ≡ from_to c p → s ≡ square_of m → n ≡ root_of s → to_z w64 n ≡ ring_of (from_to c p)
  unfolding ring_of
  ring_told {m} {s} {n} e f g =
      let k : n ≡ root_of (square_of (from_to c p)) = rw (f, e) at g in
      rw k (to_z_pos w64 (omega (arith, ring_radius.high)))

  pub short_told : {m : Vector} → m ≡ from_to c p → Short m
  short_told e = rw e about_short

-- ---- rays of some length

zero_same : (a b : ℤ) → nat_abs (a -ℤ b) ≡ 0 → a ≡ b
zero_same a b e = ext a b (omega (arith, abs_is (a -ℤ b), add_balance a (neg_ℤ b), up-neg b, down-neg b))

pub same_self : (a : ℤ) → same_number a a ≡ true
unfolding same_number
same_self (pos n) = eq-eqb n n refl
same_self (negsuc n) = eq-eqb n n refl

pub same_is : (a b : ℤ) → same_number a b ≡ true → a ≡ b
unfolding same_number
same_is (pos m) (pos n) e = ap pos (eqb-true m n e)
same_is (pos m) (negsuc n) e = absurd (true≢false (sym e))
same_is (negsuc m) (pos n) e = absurd (true≢false (sym e))
same_is (negsuc m) (negsuc n) e = ap negsuc (eqb-true m n e)

pub both_true : (a b : Bool) → (a && b) ≡ true → (a ≡ true) × (b ≡ true)
both_true true b e = (refl, e)
both_true false b e = absurd (true≢false (sym e))

pub same_point_lem : (p q : Point) → same_point p q ≡ true → p ≡ q
unfolding same_point
same_point_lem p q e =
    let h = both_true _ _ e in
    λ i. record { x = same_is p.x q.x h.0 i; y = same_is p.y q.y h.1 i }

some_way : (a b : ℤ) → same_number a b ≡ false → 0 < nat_abs (a -ℤ b)
some_way a b e = go (nat_abs (a -ℤ b)) refl
  where
    go : (n : ℕ) → nat_abs (a -ℤ b) ≡ n → 0 < n
    go zero h = absurd (true≢false (sym (same_self b) ∙ (rw (zero_same a b h) at e)))
    go (suc n) h = omega arith

some_square : (n : ℕ) → 0 < n → 0 < n * n
some_square n h = omega (arith, mul-le-mul {n₁ = 1} {m₁ = 1} h h)

pub apart_some : (p c : Point) → same_point p c ≡ false → 0 < square_of (from_to c p)
unfolding same_point from_to square_of
apart_some p c e = go (same_number p.x c.x) refl e
  where
    go : (b : Bool) → same_number p.x c.x ≡ b → (b && same_number p.y c.y) ≡ false → 0 < square_of (from_to c p)
    go true h k = omega (arith, some_square _ (some_way p.y c.y k))
    go false h k = omega (arith, some_square _ (some_way p.x c.x h))

pub neither : (a b : Bool) → (a || b) ≡ false → (a ≡ false) × (b ≡ false)
neither true b e = absurd (true≢false e)
neither false b e = (refl, e)

pub not_empty_some : (w : Sweep) (c p q : Point) → empty_of w c p q ≡ false → (0 < square_of (from_to c p)) × (0 < square_of (from_to c q))
unfolding empty_of
not_empty_some Minor c p q e =
    let h = neither (same_point p q || same_point p c) (same_point q c) e in
    (apart_some p c (neither (same_point p q) (same_point p c) h.0).1, apart_some q c h.1)
not_empty_some Major c p q e =
    let h = neither (same_point p c) (same_point q c) e in
    (apart_some p c h.0, apart_some q c h.1)

-- such a ray has a direction: m is the ray as the code has it, d its direction
pub some_told : {v m : Vector} → m ≡ v → 0 < square_of v → 0 < square_of m
some_told e h = rw e h

pub unit_told : {v m d : Vector} → m ≡ v → 0 < square_of v → d ≡ direction_of m → UnitLong d
unit_told {v} e h f = rw (f, e) (direction_unit v h)

-- ---- the two ends of a circle's arcs

module _ (c : Point) (r : ℤ) where
  east_square : square_of (from_to c (east_of c r)) ≡ nat_abs r * nat_abs r
  unfolding from_to square_of east_of
  east_square = rw (ahead c.x r, level c.y) (omega arith)

  west_square : square_of (from_to c (west_of c r)) ≡ nat_abs r * nat_abs r
  unfolding from_to square_of west_of
  west_square = rw (behind c.x r, level c.y, abs_neg r) (omega arith)

radius_square : {r : ℤ} → Radius r → nat_abs r * nat_abs r < (2 ^ 28 + 1) * (2 ^ 28 + 1)
radius_square h = omega (arith, mul-le-mul {n₂ = 2 ^ 28} {m₂ = 2 ^ 28} h.high h.high)

radius_positive : (r : ℤ) → le_z r (pos 1) ≡ false → 0 < nat_abs r
radius_positive r e = omega (arith, le_false r (pos 1) e, abs_is r)

pub east_about : (c : Point) {r : ℤ} → Radius r → About c (east_of c r)
east_about c {r} h = record { within = rw (east_square c r) (radius_square h) }

pub west_about : (c : Point) {r : ℤ} → Radius r → About c (west_of c r)
west_about c {r} h = record { within = rw (west_square c r) (radius_square h) }

pub east_some : (c : Point) (r : ℤ) → le_z r (pos 1) ≡ false → 0 < square_of (from_to c (east_of c r))
east_some c r e = rw (east_square c r) (some_square (nat_abs r) (radius_positive r e))

pub west_some : (c : Point) (r : ℤ) → le_z r (pos 1) ≡ false → 0 < square_of (from_to c (west_of c r))
west_some c r e = rw (west_square c r) (some_square (nat_abs r) (radius_positive r e))

-- p is the end as the code has it
pub east_told : (c : Point) {p : Point} {r : ℤ} → Radius r → p ≡ east_of c r → About c p
east_told c h e = rw e (east_about c h)

pub west_told : (c : Point) {p : Point} {r : ℤ} → Radius r → p ≡ west_of c r → About c p
west_told c h e = rw e (west_about c h)

-- ---- their directions

-- the component of a ray along itself, and of none
part_self : (n : ℕ) → 0 < n → 2 ^ 30 ≡ part_of n (n * n)
part_self n h =
    let k : 0 < n * n = some_square n h in
    part_only n (n * n) (2 ^ 30) k (omega arith) (omega arith)

part_none : (s : ℕ) → 0 < s → 0 ≡ part_of 0 s
part_none s h = part_only 0 s 0 h (omega arith) (omega arith)

eastward : (n : ℕ) → 0 < n → direction_of (record { x = pos n; y = pos 0 }) ≡ record { x = pos (2 ^ 30); y = pos 0 }
unfolding direction_of component_of square_of
eastward n h =
    let e : n * n + 0 * 0 ≡ n * n = omega arith in
    rw (e, le-ltb n 0 (omega arith), ← part_self n h, ← part_none (n * n) (some_square n h))

westward : (n : ℕ) → 0 < n → direction_of (record { x = neg_ℤ (pos n); y = pos 0 }) ≡ record { x = neg_ℤ (pos (2 ^ 30)); y = pos 0 }
unfolding direction_of component_of square_of
westward zero h = absurd (omega arith)
westward (suc n) h =
    let e : suc n * suc n + 0 * 0 ≡ suc n * suc n = omega arith in
    rw (e, ← part_self (suc n) h, ← part_none (suc n * suc n) (some_square (suc n) h))

east_direction : (c : Point) (r : ℤ) → le_z r (pos 1) ≡ false → record { x = pos (2 ^ 30); y = pos 0 } ≡ direction_of (from_to c (east_of c r))
unfolding from_to east_of
east_direction c (pos n) e = rw (ahead c.x (pos n), level c.y) (sym (eastward n (radius_positive (pos n) e)))
east_direction c (negsuc n) e = absurd (true≢false e)

west_direction : (c : Point) (r : ℤ) → le_z r (pos 1) ≡ false → record { x = neg_ℤ (pos (2 ^ 30)); y = pos 0 } ≡ direction_of (from_to c (west_of c r))
unfolding from_to west_of
west_direction c (pos n) e = rw (behind c.x (pos n), level c.y) (sym (westward n (radius_positive (pos n) e)))
west_direction c (negsuc n) e = absurd (true≢false e)

pub eastward_unit : UnitLong (record { x = pos (2 ^ 30); y = pos 0 })
unfolding square_of
eastward_unit = record { length = omega arith }

pub westward_unit : UnitLong (record { x = neg_ℤ (pos (2 ^ 30)); y = pos 0 })
unfolding square_of
westward_unit = record { length = omega arith }

-- p is the end as the code has it
pub eastward_told : (c : Point) (r : ℤ) {p : Point} → le_z r (pos 1) ≡ false → p ≡ east_of c r → record { x = pos (2 ^ 30); y = pos 0 } ≡ direction_of (from_to c p)
eastward_told c r k e = rw e (east_direction c r k)

pub westward_told : (c : Point) (r : ℤ) {p : Point} → le_z r (pos 1) ≡ false → p ≡ west_of c r → record { x = neg_ℤ (pos (2 ^ 30)); y = pos 0 } ≡ direction_of (from_to c p)
westward_told c r k e = rw e (west_direction c r k)
