-- How far apart vectors come to lie that lay within a distance of each other, or that were turned by steps in another order. Assumes nothing.
use mathlib.Core.Path.{◌≡◌, refl, sym, ap, ◌∙◌}
use Prim.Native.Nat.{ℕ, ◌+◌, ◌*◌, ◌^◌, ◌≤◌, ◌<◌}
use native.Mathlib.Nat.{lt_of_not-le, not-le_of_lt, le_of_lt}
use native.Mathlib.Decide.{dec_le}
use native.Mathlib.Omega.{arith}
use lib.IntN.{ℤ, pos, neg_ℤ, nat_abs, ◌+ℤ◌, ◌-ℤ◌, ◌*ℤ◌, neg_ℤ-+ℤ}
use lib.Signed.{rem_z}
use Rattle.whole.proofs.Signed.{up, down, ext, add_balance, up-neg, down-neg, mul_addℤ, add_mulℤ, mul_negℤ, neg_mulℤ, mul_commℤ, mul_assocℤ, mul_left_commℤ, add_assocℤ, add_commℤ, add_left_commℤ}
use Rattle.whole.proofs.Sizes.{abs_neg}
use Rattle.whole.proofs.Division.{quot_rem}
use Rattle.plane.specs.Vectors.{cross_of, dot_of, square_of}
use Rattle.plane.specs.Directions.{rotated_of, UnitLong}
use Rattle.plane.specs.OffBy.{less_of, OffBy}
use Rattle.plane.specs.declared.Vector.{Vector}
use Rattle.plane.proofs.Norms.{Most, sum_most, most_add, most_neg, most_sub, most_more, most_same, most_product, most_scaled, most_shrunk, most_first, most_second, most_parts, most_turned, product_far, square_sum, remainders_most}

-- ---- sums of signed numbers

nothing : (x : ℤ) → x -ℤ x ≡ pos 0
nothing x = ext _ _ (omega (arith, add_balance x (neg_ℤ x), up-neg x, down-neg x))

through : (x y z : ℤ) → x -ℤ z ≡ x -ℤ y +ℤ (y -ℤ z)
through x y z =
    ext _ _
    (omega (
      arith,
      add_balance x (neg_ℤ z),
      add_balance (x -ℤ y) (y -ℤ z),
      add_balance x (neg_ℤ y),
      add_balance y (neg_ℤ z),
      up-neg y,
      down-neg y,
      up-neg z,
      down-neg z,
    ))

flipped : (x y : ℤ) → x -ℤ y ≡ neg_ℤ (y -ℤ x)
flipped x y =
    ext _ _
    (omega (
      arith,
      add_balance x (neg_ℤ y),
      add_balance y (neg_ℤ x),
      up-neg x,
      down-neg x,
      up-neg y,
      down-neg y,
      up-neg (y -ℤ x),
      down-neg (y -ℤ x),
    ))

pub size_flipped : (x y : ℤ) → nat_abs (x -ℤ y) ≡ nat_abs (y -ℤ x)
size_flipped x y = ap nat_abs (flipped x y) ∙ abs_neg (y -ℤ x)

swapped : (x y z : ℤ) → x +ℤ y +ℤ z ≡ x +ℤ z +ℤ y
swapped x y z = simp (add_assocℤ, add_commℤ) refl

back_to_lem : (x y : ℤ) → y ≡ x +ℤ neg_ℤ (x -ℤ y)
back_to_lem x y =
    ext _ _
    (omega (
      arith,
      add_balance x (neg_ℤ (x -ℤ y)),
      add_balance x (neg_ℤ y),
      up-neg y,
      down-neg y,
      up-neg (x -ℤ y),
      down-neg (x -ℤ y),
    ))

exchange_less : (p q r t : ℤ) → p -ℤ q -ℤ (r -ℤ t) ≡ p -ℤ r -ℤ (q -ℤ t)
exchange_less p q r t = simp (neg_ℤ-+ℤ, add_assocℤ, add_left_commℤ) refl

exchange_sum : (p q r t : ℤ) → p +ℤ q -ℤ (r +ℤ t) ≡ p -ℤ r +ℤ (q -ℤ t)
exchange_sum p q r t = simp (neg_ℤ-+ℤ, add_assocℤ, add_left_commℤ) refl

-- what is left of two equal sums
moved : (p q r t : ℤ) → p +ℤ r ≡ q +ℤ t → p -ℤ q ≡ t -ℤ r
moved p q r t e =
    ext _ _
    (omega (
      arith,
      ap up e,
      ap down e,
      add_balance p r,
      add_balance q t,
      add_balance p (neg_ℤ q),
      add_balance t (neg_ℤ r),
      up-neg q,
      down-neg q,
      up-neg r,
      down-neg r,
    ))

moved_last : (p q r : ℤ) → p +ℤ r ≡ q → p ≡ q -ℤ r
moved_last p q r e = ext _ _ (omega (arith, ap up e, ap down e, add_balance p r, add_balance q (neg_ℤ r), up-neg r, down-neg r))

-- ---- products of pairs, as a rotation has them

product_less_first : (c s x y z w : ℤ) → c *ℤ x -ℤ s *ℤ y -ℤ (c *ℤ z -ℤ s *ℤ w) ≡ c *ℤ (x -ℤ z) -ℤ s *ℤ (y -ℤ w)
product_less_first c s x y z w = simp (mul_addℤ, mul_negℤ) (exchange_less (c *ℤ x) (s *ℤ y) (c *ℤ z) (s *ℤ w))

product_less_second : (c s x y z w : ℤ) → s *ℤ x +ℤ c *ℤ y -ℤ (s *ℤ z +ℤ c *ℤ w) ≡ s *ℤ (x -ℤ z) +ℤ c *ℤ (y -ℤ w)
product_less_second c s x y z w = simp (mul_addℤ, mul_negℤ) (exchange_sum (s *ℤ x) (c *ℤ y) (s *ℤ z) (c *ℤ w))

less_mulℤ : (a b n : ℤ) → (a -ℤ b) *ℤ n ≡ a *ℤ n -ℤ b *ℤ n
less_mulℤ a b n = simp (add_mulℤ, neg_mulℤ) refl

-- two quotients' difference, from dividends and remainders
quotients_less : (a b p q r k n : ℤ) → a *ℤ n +ℤ r ≡ p → b *ℤ n +ℤ k ≡ q → (a -ℤ b) *ℤ n ≡ p -ℤ q -ℤ (r -ℤ k)
quotients_less a b p q r k n e f =
    less_mulℤ a b n ∙ (λ i. moved_last (a *ℤ n) p r e i -ℤ moved_last (b *ℤ n) q k f i) ∙ exchange_less p r q k

-- a product's parts, times n, from the parts of one of its factors times n
scaled_first : (c s a b i j n : ℤ) → (c *ℤ a -ℤ s *ℤ b) *ℤ n +ℤ (c *ℤ i -ℤ s *ℤ j) ≡ c *ℤ (a *ℤ n +ℤ i) -ℤ s *ℤ (b *ℤ n +ℤ j)
scaled_first c s a b i j n = simp (mul_addℤ, add_mulℤ, neg_mulℤ, mul_assocℤ, neg_ℤ-+ℤ, add_assocℤ, add_commℤ, add_left_commℤ) refl

scaled_second : (c s a b i j n : ℤ) → (s *ℤ a +ℤ c *ℤ b) *ℤ n +ℤ (s *ℤ i +ℤ c *ℤ j) ≡ s *ℤ (a *ℤ n +ℤ i) +ℤ c *ℤ (b *ℤ n +ℤ j)
scaled_second c s a b i j n = simp (mul_addℤ, add_mulℤ, mul_assocℤ, add_assocℤ, add_commℤ, add_left_commℤ) refl

factor_first : (z w d e k l n : ℤ) → (d *ℤ z -ℤ e *ℤ w) *ℤ n +ℤ (k *ℤ z -ℤ l *ℤ w) ≡ (d *ℤ n +ℤ k) *ℤ z -ℤ (e *ℤ n +ℤ l) *ℤ w
factor_first z w d e k l n =
    simp (add_mulℤ, neg_mulℤ, mul_assocℤ, mul_commℤ, mul_left_commℤ, neg_ℤ-+ℤ, add_assocℤ, add_commℤ, add_left_commℤ) refl

factor_second : (z w d e k l n : ℤ) → (e *ℤ z +ℤ d *ℤ w) *ℤ n +ℤ (l *ℤ z +ℤ k *ℤ w) ≡ (e *ℤ n +ℤ l) *ℤ z +ℤ (d *ℤ n +ℤ k) *ℤ w
factor_second z w d e k l n = simp (add_mulℤ, mul_assocℤ, mul_commℤ, mul_left_commℤ, add_assocℤ, add_commℤ, add_left_commℤ) refl

-- a product of three pairs, by either two first
thrice_first : (c s x y z w : ℤ) → c *ℤ (x *ℤ z -ℤ y *ℤ w) -ℤ s *ℤ (y *ℤ z +ℤ x *ℤ w) ≡ (c *ℤ x -ℤ s *ℤ y) *ℤ z -ℤ (s *ℤ x +ℤ c *ℤ y) *ℤ w
thrice_first c s x y z w =
    simp (mul_addℤ, add_mulℤ, mul_negℤ, neg_mulℤ, mul_assocℤ, neg_ℤ-+ℤ, add_assocℤ, add_commℤ, add_left_commℤ) refl

thrice_second : (c s x y z w : ℤ) → s *ℤ (x *ℤ z -ℤ y *ℤ w) +ℤ c *ℤ (y *ℤ z +ℤ x *ℤ w) ≡ (s *ℤ x +ℤ c *ℤ y) *ℤ z +ℤ (c *ℤ x -ℤ s *ℤ y) *ℤ w
thrice_second c s x y z w = simp (mul_addℤ, add_mulℤ, mul_negℤ, neg_mulℤ, mul_assocℤ, add_assocℤ, add_commℤ, add_left_commℤ) refl

-- ---- as bounds of pairs

within_most : {a : ℕ} {u v : Vector} → OffBy a u v → Most a (u.x -ℤ v.x) (u.y -ℤ v.y)
unfolding square_of less_of
within_most h = record { most = h.within }

most_within : {a : ℕ} (u v : Vector) → Most a (u.x -ℤ v.x) (u.y -ℤ v.y) → OffBy a u v
unfolding square_of less_of
most_within u v h = record { within = h.most }

pub unit_most : (v : Vector) → UnitLong v → Most (2 ^ 30) v.x v.y
unfolding square_of
unit_most v h = record { most = h.length }

pub within_same : (v : Vector) → OffBy 0 v v
within_same v = most_within v v (most_same (nothing v.x) (nothing v.y) (record { most = omega arith }))

pub within_more : {a b : ℕ} {u v : Vector} → a ≤ b → OffBy a u v → OffBy b u v
within_more {a} {b} {u} {v} h k = most_within u v (most_more h (within_most k))

pub within_then : {a b : ℕ} (u v w : Vector) → OffBy a u v → OffBy b v w → OffBy (a + b) u w
within_then u v w h k = most_within u w (most_same (through u.x v.x w.x) (through u.y v.y w.y) (most_add (within_most h) (within_most k)))

-- ---- a turn

-- the parts of a product, before they are divided by 2 ^ 30, and what the divisions leave
abbrev pub first_of : Vector → Vector → ℤ
first_of t v = t.x *ℤ v.x -ℤ t.y *ℤ v.y

abbrev pub second_of : Vector → Vector → ℤ
second_of t v = t.y *ℤ v.x +ℤ t.x *ℤ v.y

abbrev pub rest_of : Vector → Vector → Vector
rest_of t v = record { x = rem_z (first_of t v) (pos (2 ^ 30)); y = rem_z (second_of t v) (pos (2 ^ 30)) }

pub turned_x : (t v : Vector) → (rotated_of t v).x *ℤ pos (2 ^ 30) +ℤ (rest_of t v).x ≡ first_of t v
unfolding rotated_of
turned_x t v = quot_rem (first_of t v) (2 ^ 30)

pub turned_y : (t v : Vector) → (rotated_of t v).y *ℤ pos (2 ^ 30) +ℤ (rest_of t v).y ≡ second_of t v
unfolding rotated_of
turned_y t v = quot_rem (second_of t v) (2 ^ 30)

pub rest_most : (t v : Vector) → Most (3 * 2 ^ 29) (rest_of t v).x (rest_of t v).y
rest_most t v = remainders_most (first_of t v) (second_of t v)

parts_most : {a b : ℕ} (t v : Vector) → Most a t.x t.y → Most b v.x v.y → Most (a * b) (first_of t v) (second_of t v)
parts_most t v h k = most_product t.x t.y v.x v.y h k

-- two turned vectors lie as near as the products, but for what two divisions leave
turned_less_x : (t u v w : Vector)
    → ((rotated_of t u).x -ℤ (rotated_of v w).x) *ℤ pos (2 ^ 30) ≡ first_of t u -ℤ first_of v w -ℤ ((rest_of t u).x -ℤ (rest_of v w).x)
turned_less_x t u v w =
    quotients_less (rotated_of t u).x (rotated_of v w).x _ _ (rest_of t u).x (rest_of v w).x (pos (2 ^ 30)) (turned_x t u) (turned_x v w)

turned_less_y : (t u v w : Vector)
    → ((rotated_of t u).y -ℤ (rotated_of v w).y) *ℤ pos (2 ^ 30) ≡ second_of t u -ℤ second_of v w -ℤ ((rest_of t u).y -ℤ (rest_of v w).y)
turned_less_y t u v w =
    quotients_less (rotated_of t u).y (rotated_of v w).y _ _ (rest_of t u).y (rest_of v w).y (pos (2 ^ 30)) (turned_y t u) (turned_y v w)

rotations_within : (a : ℕ) (t u v w : Vector) → Most (a * 2 ^ 30) (first_of t u -ℤ first_of v w) (second_of t u -ℤ second_of v w)
    → OffBy (a + 3) (rotated_of t u) (rotated_of v w)
rotations_within a t u v w h =
    most_within (rotated_of t u) (rotated_of v w)
    (most_shrunk (a + 3) (2 ^ 30) _ _ (omega arith)
    (most_same (turned_less_x t u v w) (turned_less_y t u v w)
    (most_more {a = a * 2 ^ 30 + (3 * 2 ^ 29 + 3 * 2 ^ 29)} (omega arith) (most_sub h (most_sub (rest_most t u) (rest_most v w))))))

-- turned by one step, they lie as near, but for what two divisions leave
pub turned_within : {a : ℕ} (t u v : Vector) → UnitLong t → OffBy a u v → OffBy (a + 3) (rotated_of t u) (rotated_of t v)
turned_within {a} t u v h k =
    rotations_within a t u t v
    (most_same
    (product_less_first t.x t.y u.x u.y v.x v.y)
    (product_less_second t.x t.y u.x u.y v.x v.y)
    (most_more {a = 2 ^ 30 * a} (omega arith) (most_product t.x t.y (u.x -ℤ v.x) (u.y -ℤ v.y) (unit_most t h) (within_most k))))

-- a product of three, by either two first and divided: 2 ^ 30 times the difference is what the divisions left, once more in a product
twice_first : (t u v : Vector)
    → (first_of t (rotated_of u v) -ℤ first_of (rotated_of t u) v) *ℤ pos (2 ^ 30) ≡ first_of (rest_of t u) v -ℤ first_of t (rest_of u v)
twice_first t u v =
    let p = rotated_of u v in
    let q = rotated_of t u in
    let n = pos (2 ^ 30) in
    less_mulℤ (first_of t p) (first_of q v) n
    ∙ moved (first_of t p *ℤ n) (first_of q v *ℤ n) (first_of t (rest_of u v)) (first_of (rest_of t u) v)
    (scaled_first t.x t.y p.x p.y (rest_of u v).x (rest_of u v).y n
    ∙ (λ i. t.x *ℤ turned_x u v i -ℤ t.y *ℤ turned_y u v i)
    ∙ thrice_first t.x t.y u.x u.y v.x v.y
    ∙ (λ i. sym (turned_x t u) i *ℤ v.x -ℤ sym (turned_y t u) i *ℤ v.y)
    ∙ sym (factor_first v.x v.y q.x q.y (rest_of t u).x (rest_of t u).y n))

twice_second : (t u v : Vector)
    → (second_of t (rotated_of u v) -ℤ second_of (rotated_of t u) v) *ℤ pos (2 ^ 30) ≡ second_of (rest_of t u) v -ℤ second_of t (rest_of u v)
twice_second t u v =
    let p = rotated_of u v in
    let q = rotated_of t u in
    let n = pos (2 ^ 30) in
    less_mulℤ (second_of t p) (second_of q v) n
    ∙ moved (second_of t p *ℤ n) (second_of q v *ℤ n) (second_of t (rest_of u v)) (second_of (rest_of t u) v)
    (scaled_second t.x t.y p.x p.y (rest_of u v).x (rest_of u v).y n
    ∙ (λ i. t.y *ℤ turned_x u v i +ℤ t.x *ℤ turned_y u v i)
    ∙ thrice_second t.x t.y u.x u.y v.x v.y
    ∙ (λ i. sym (turned_y t u) i *ℤ v.x +ℤ sym (turned_x t u) i *ℤ v.y)
    ∙ sym (factor_second v.x v.y q.x q.y (rest_of t u).x (rest_of t u).y n))

-- turned by one step and then another, or by the two at once
pub turned_twice : (t u v : Vector) → UnitLong t → UnitLong v → OffBy 6 (rotated_of t (rotated_of u v)) (rotated_of (rotated_of t u) v)
turned_twice t u v h l =
    rotations_within 3 t (rotated_of u v) (rotated_of t u) v
    (most_shrunk (3 * 2 ^ 30) (2 ^ 30) _ _ (omega arith)
    (most_same (twice_first t u v) (twice_second t u v)
    (most_more {a = 3 * 2 ^ 29 * 2 ^ 30 + 2 ^ 30 * (3 * 2 ^ 29)} (omega arith)
    (most_sub (parts_most (rest_of t u) v (rest_most t u) (unit_most v l)) (parts_most t (rest_of u v) (unit_most t h) (rest_most u v))))))

-- ---- a sway

-- what a step changes: the product with the step less 2 ^ 30
abbrev change_of : Vector → Vector
change_of t = record { x = t.x -ℤ pos (2 ^ 30); y = t.y }

sway_first : (a c s x y r n : ℤ) → a *ℤ n +ℤ r ≡ c *ℤ x -ℤ s *ℤ y → (a -ℤ x) *ℤ n +ℤ r ≡ (c -ℤ n) *ℤ x -ℤ s *ℤ y
sway_first a c s x y r n e =
    let m = neg_ℤ (x *ℤ n) in
    simp (add_mulℤ, neg_mulℤ, mul_commℤ n x) (swapped (a *ℤ n) m r ∙ ap (λ (z : ℤ). z +ℤ m) e ∙ swapped (c *ℤ x) (neg_ℤ (s *ℤ y)) m)

sway_second : (b c s x y r n : ℤ) → b *ℤ n +ℤ r ≡ s *ℤ x +ℤ c *ℤ y → (b -ℤ y) *ℤ n +ℤ r ≡ s *ℤ x +ℤ (c -ℤ n) *ℤ y
sway_second b c s x y r n e =
    let m = neg_ℤ (y *ℤ n) in
    simp (add_mulℤ, neg_mulℤ, mul_commℤ n y) (swapped (b *ℤ n) m r ∙ ap (λ (z : ℤ). z +ℤ m) e ∙ add_assocℤ (s *ℤ x) (c *ℤ y) m)

sway_x : (t v : Vector) → ((rotated_of t v).x -ℤ v.x) *ℤ pos (2 ^ 30) +ℤ (rest_of t v).x ≡ first_of (change_of t) v
sway_x t v = sway_first (rotated_of t v).x t.x t.y v.x v.y (rest_of t v).x (pos (2 ^ 30)) (turned_x t v)

sway_y : (t v : Vector) → ((rotated_of t v).y -ℤ v.y) *ℤ pos (2 ^ 30) +ℤ (rest_of t v).y ≡ second_of (change_of t) v
sway_y t v = sway_second (rotated_of t v).y t.x t.y v.x v.y (rest_of t v).y (pos (2 ^ 30)) (turned_y t v)

change_most : (t : Vector) → Most (nat_abs (pos (2 ^ 30) -ℤ t.x) + nat_abs t.y) (t.x -ℤ pos (2 ^ 30)) t.y
change_most t = rw (size_flipped (pos (2 ^ 30)) t.x) (most_parts (t.x -ℤ pos (2 ^ 30)) t.y)

-- how far a step takes a direction
pub sway_within : (t v : Vector) → UnitLong v → OffBy (nat_abs (pos (2 ^ 30) -ℤ t.x) + nat_abs t.y + 2) (rotated_of t v) v
sway_within t v h =
    let a = nat_abs (pos (2 ^ 30) -ℤ t.x) + nat_abs t.y in
    let e = moved_last (((rotated_of t v).x -ℤ v.x) *ℤ pos (2 ^ 30)) (first_of (change_of t) v) (rest_of t v).x (sway_x t v) in
    let f = moved_last (((rotated_of t v).y -ℤ v.y) *ℤ pos (2 ^ 30)) (second_of (change_of t) v) (rest_of t v).y (sway_y t v) in
    most_within (rotated_of t v) v
    (most_shrunk (a + 2) (2 ^ 30) _ _ (omega arith)
    (most_same e f
    (most_more {a = a * 2 ^ 30 + 3 * 2 ^ 29} (omega arith) (most_sub (parts_most (change_of t) v (change_most t) (unit_most v h)) (rest_most t v)))))

-- a short sway, of a direction of the length l, is one by a small step
sway_near : (g l : ℕ) (t v : Vector) → l * l ≤ square_of v → OffBy g (rotated_of t v) v → nat_abs t.y * l ≤ g * 2 ^ 30 + 3 * 2 ^ 29
unfolding square_of
sway_near g l t v h k =
    product_far l (g * 2 ^ 30 + 3 * 2 ^ 29) (t.x -ℤ pos (2 ^ 30)) t.y v.x v.y h
    (most_same (sym (sway_x t v)) (sym (sway_y t v))
    (most_add (most_scaled (2 ^ 30) ((rotated_of t v).x -ℤ v.x) ((rotated_of t v).y -ℤ v.y) (within_most k)) (rest_most t v)))

-- and at least, where the direction has the length l
pub sway_far : (g l : ℕ) (t v : Vector) → l * l ≤ square_of v → (g + 2) * 2 ^ 30 ≤ nat_abs t.y * l → g * g ≤ square_of (less_of (rotated_of t v) v)
sway_far g l t v h k = go (dec_le (g * g) (square_of (less_of (rotated_of t v) v)))
  where
    go : Dec (g * g ≤ square_of (less_of (rotated_of t v) v)) → g * g ≤ square_of (less_of (rotated_of t v) v)
    go (yes m) = m
    go (no f) = absurd (omega (arith, k, sway_near g l t v h (record { within = le_of_lt (lt_of_not-le f) })))

-- ---- products with a direction

cross_less : (x y z w p q : ℤ) → x *ℤ q -ℤ y *ℤ p -ℤ (z *ℤ q -ℤ w *ℤ p) ≡ (x -ℤ z) *ℤ q -ℤ (y -ℤ w) *ℤ p
cross_less x y z w p q = simp (add_mulℤ, neg_mulℤ) (exchange_less (x *ℤ q) (y *ℤ p) (z *ℤ q) (w *ℤ p))

dot_less : (x y z w p q : ℤ) → x *ℤ p +ℤ y *ℤ q -ℤ (z *ℤ p +ℤ w *ℤ q) ≡ (y -ℤ w) *ℤ q +ℤ (x -ℤ z) *ℤ p
dot_less x y z w p q =
    simp (add_mulℤ, neg_mulℤ) (exchange_sum (x *ℤ p) (y *ℤ q) (z *ℤ p) (w *ℤ q) ∙ add_commℤ (x *ℤ p -ℤ z *ℤ p) (y *ℤ q -ℤ w *ℤ q))

-- the difference's cross and dot product with e are the parts of one product
both_within : {a : ℕ} (u v e : Vector) → UnitLong e → OffBy a u v
    → Most (a * 2 ^ 30) ((u.x -ℤ v.x) *ℤ e.y -ℤ (u.y -ℤ v.y) *ℤ e.x) ((u.y -ℤ v.y) *ℤ e.y +ℤ (u.x -ℤ v.x) *ℤ e.x)
both_within u v e h k = most_product (u.x -ℤ v.x) (u.y -ℤ v.y) e.y e.x (within_most k) (most_turned (unit_most e h))

pub cross_within : {a : ℕ} (u v e : Vector) → UnitLong e → OffBy a u v → nat_abs (cross_of u e -ℤ cross_of v e) ≤ a * 2 ^ 30
unfolding cross_of
cross_within u v e h k = rw (cross_less u.x u.y v.x v.y e.x e.y) (most_first (both_within u v e h k))

pub dot_within : {a : ℕ} (u v e : Vector) → UnitLong e → OffBy a u v → nat_abs (dot_of u e -ℤ dot_of v e) ≤ a * 2 ^ 30
unfolding dot_of
dot_within u v e h k = rw (dot_less u.x u.y v.x v.y e.x e.y) (most_second (both_within u v e h k))

-- ---- lengths

long_back : {a l : ℕ} (x y z w : ℤ) → Most l x y → Most a (x -ℤ z) (y -ℤ w)
    → nat_abs z * nat_abs z + nat_abs w * nat_abs w ≤ nat_abs x * nat_abs x + nat_abs y * nat_abs y + a * a + 2 * (l * a)
long_back x y z w h k = rw (← back_to_lem x z, ← back_to_lem y w) at (sum_most x y (neg_ℤ (x -ℤ z)) (neg_ℤ (y -ℤ w)) h (most_neg k))

short_within : (a l : ℕ) (u v : Vector) → OffBy a u v → square_of u < l * l → square_of v < (l + a) * (l + a)
unfolding square_of
short_within a l u v h k =
    omega (arith, k, long_back {a = a} {l = l} u.x u.y v.x v.y (record { most = le_of_lt k }) (within_most h), square_sum l a)

-- what lies near a long vector is long
pub long_within : {a : ℕ} (l : ℕ) (u v : Vector) → OffBy a u v → (l + a) * (l + a) ≤ square_of v → l * l ≤ square_of u
long_within {a} l u v h k = go (dec_le (l * l) (square_of u))
  where
    go : Dec (l * l ≤ square_of u) → l * l ≤ square_of u
    go (yes m) = m
    go (no f) = absurd (not-le_of_lt (short_within a l u v h (lt_of_not-le f)) k)
