-- The tangent, the numerators, the contacts and the section, from what the code has computed, on bits where it is signed. Assumes nothing.
use mathlib.Core.Path.{◌≡◌, refl, ap, ◌∙◌}
use mathlib.Core.Bool.{Bool, false, ◌&&◌}
use Prim.Native.Nat.{ℕ, ◌-◌, ◌*◌, ◌%◌, ◌^◌, ◌≤◌, ◌<◌}
use native.Mathlib.Nat.{mul-le-mul_right, mod-eq_of_lt, le_of_lt}
use native.Mathlib.Omega.{arith}
use lib.Dec.{lt→ltb}
use lib.IntN.{ℤ, pos, neg_ℤ, nat_abs, ◌+ℤ◌, ◌-ℤ◌, ◌*ℤ◌}
use lib.Signed.{◌<ℤ◌, lt_z_yes}
use mir.Syntax.{w64}
use mir.Val.{SFits, to_z}
use mir.Facts.{to_z_pos}
use Rattle.whole.specs.Sizes.{Size}
use Rattle.whole.proofs.Order.{abs_minus, minus_is}
use Rattle.whole.proofs.Signed.{mul_right_commℤ}
use Rattle.whole.proofs.Sizes.{sfits, abs_neg, abs_mul, size_mul, size_add, size_sub, size_fits}
use Rattle.whole.proofs.Squares.{square_le, four_power, scaled_square}
use Rattle.number.specs.Root.{root_of}
use Rattle.number.specs.MulDiv.{mul_div_of, exact_of}
use Rattle.number.proofs.Nearest.{mul-div_most}
use Rattle.plane.specs.Vectors.{square_of}
use Rattle.plane.proofs.Products.{bits, back, size_back, near_fits}
use Rattle.plane.specs.declared.Vector.{Vector}
use Rattle.turning.specs.Bounds.{Radius}
use Rattle.turning.specs.declared.Edge.{Edge}
use Rattle.contacts.specs.Contacts.{line_of, delta_of, shift_of, tangent_of, numerator_of, contact_of, side_of, contact_exact, side_exact, trend_of, section_of, broken_of}
use Rattle.contacts.specs.Bounds.{Inside, Line}
use Rattle.contacts.proofs.Steps.{delta_fits}
use Rattle.contacts.proofs.Contacts.{Shifts, line_is, shift_is, tangent_square, component_most, not_broken, step_shifts, divisor_some, side_square}
use Rattle.contacts.specs.declared.Vertex.{Vertex}
use Rattle.contacts.specs.declared.Exactness.{Exactness}
use Rattle.contacts.specs.declared.Trend.{Trend}

-- ---- the tangent

module _ (sq k : ℕ) (h : 0 < sq) (l : sq ≤ 2 ^ 59) (e : k ≡ shift_of sq) where
  pub shifts_as : Shifts sq k
  shifts_as = rw e (shift_is sq h l)

  lifted : (m : ℕ) → (sq - m) * 2 ^ (2 * k) % 2 ^ 64 ≡ (sq - m) * 4 ^ k
  lifted m =
      let g : (sq - m) * 4 ^ k ≤ sq * 4 ^ k = mul-le-mul_right (4 ^ k) (omega arith) in
      rw (← four_power k) (mod-eq_of_lt (omega (arith, shifts_as.square)))

  pub tangent_back : (delta : ℤ) {m r : ℕ} → m ≡ nat_abs delta → r ≡ root_of ((sq - m * m) * 2 ^ (2 * k) % 2 ^ 64) → r ≡ tangent_of sq delta
  unfolding tangent_of
  tangent_back delta {m} f g = g ∙ ap root_of (lifted (m * m)) ∙ rw (f, e)

-- ---- a scaled delta

module _ (a : ℤ) (k : ℕ) (f : SFits w64 a) (h : nat_abs a * 2 ^ k ≤ 2 ^ 32) where
  lifted_size : Size (2 ^ 32) (a *ℤ pos (2 ^ k))
  lifted_size = record { size = omega (arith, abs_mul a (pos (2 ^ k))) }

  lifted_fits : SFits w64 (a *ℤ pos (2 ^ k))
  lifted_fits = size_fits (2 ^ 32) w64 _ lifted_size tt

  pub scaled_size : {e : ℤ} → e ≡ bits a *ℤ pos (2 ^ k) → Size (2 ^ 32) (bits e)
  scaled_size {e} g = let g' : e ≡ a *ℤ pos (2 ^ k) = rw (back f) at g in rw g' (size_back lifted_fits lifted_size)

-- ---- a numerator

pub product_fits : {a b : ℤ} → Size (2 ^ 32) a → Size (2 ^ 29) b → SFits w64 (a *ℤ b)
product_fits h k = size_fits (2 ^ 61) w64 _ (size_mul (2 ^ 32) (2 ^ 29) _ _ h k) tt

sum_fits : {a b c d : ℤ} → Size (2 ^ 32) a → Size (2 ^ 29) b → Size (2 ^ 32) c → Size (2 ^ 29) d → SFits w64 (a *ℤ b +ℤ c *ℤ d)
sum_fits h k i j = size_fits (2 ^ 62) w64 _ (size_add (2 ^ 61) (2 ^ 61) _ _ (size_mul (2 ^ 32) (2 ^ 29) _ _ h k) (size_mul (2 ^ 32) (2 ^ 29) _ _ i j)) tt

difference_fits : {a b c d : ℤ} → Size (2 ^ 32) a → Size (2 ^ 29) b → Size (2 ^ 32) c → Size (2 ^ 29) d → SFits w64 (a *ℤ b -ℤ c *ℤ d)
difference_fits h k i j = size_fits (2 ^ 62) w64 _ (size_sub (2 ^ 61) (2 ^ 61) _ _ (size_mul (2 ^ 32) (2 ^ 29) _ _ h k) (size_mul (2 ^ 32) (2 ^ 29) _ _ i j)) tt

wide_fits : {a : ℤ} → Size (2 ^ 32) a → SFits w64 a
wide_fits h = size_fits (2 ^ 32) w64 _ h tt

pub wide_back : {a : ℤ} → Size (2 ^ 32) a → Size (2 ^ 32) (bits a)
wide_back h = size_back (wide_fits h) h

-- differences and sums of two such products
module _ {a b c d : ℤ} (h : Size (2 ^ 32) a) (k : Size (2 ^ 29) b) (i : Size (2 ^ 32) c) (j : Size (2 ^ 29) d) where
  pub less_fits : SFits w64 (bits (a *ℤ b) -ℤ bits (c *ℤ d))
  less_fits = rw (back (product_fits h k), back (product_fits i j)) (difference_fits h k i j)

  pub more_fits : SFits w64 (bits (a *ℤ b) +ℤ bits (c *ℤ d))
  more_fits = rw (back (product_fits h k), back (product_fits i j)) (sum_fits h k i j)

  less_back : bits (bits (a *ℤ b) -ℤ bits (c *ℤ d)) ≡ a *ℤ b -ℤ c *ℤ d
  less_back = rw (back less_fits, back (product_fits h k), back (product_fits i j))

  more_back : bits (bits (a *ℤ b) +ℤ bits (c *ℤ d)) ≡ a *ℤ b +ℤ c *ℤ d
  more_back = rw (back more_fits, back (product_fits h k), back (product_fits i j))

pub numerator_back : (v : Vector) (delta t : ℤ) (k : ℕ) {e : ℤ} → Line v → SFits w64 delta → nat_abs delta * 2 ^ k ≤ 2 ^ 32 → Size (2 ^ 32) t → e ≡ bits delta *ℤ pos (2 ^ k)
    → record { x = bits (bits (bits e *ℤ bits v.x) -ℤ bits (bits t *ℤ bits v.y)); y = bits (bits (bits e *ℤ bits v.y) +ℤ bits (bits t *ℤ bits v.x)) } ≡ numerator_of v delta k t
unfolding numerator_of
numerator_back v delta t k {e} h f l i g =
    let s = lifted_size delta k f l in
    let g' : e ≡ delta *ℤ pos (2 ^ k) = rw (back f) at g in
    rw (g', back (wide_fits s), back (wide_fits i), back (near_fits h.x), back (near_fits h.y), less_back s h.x i h.y, more_back s h.y i h.x, mul_right_commℤ delta v.x (pos (2 ^ k)), mul_right_commℤ delta v.y (pos (2 ^ k)))

-- ---- both numerators

-- what is known of the square n, its shift and its tangent
pub record Known (delta : ℤ) (n k t : ℕ) : Type 0 where
  pub shifts : Shifts n k
  pub scaled : nat_abs delta * 2 ^ k ≤ 2 ^ 32
  pub tangent : t ≤ 2 ^ 32

pub known : (delta : ℤ) (n k t : ℕ) → nat_abs delta * nat_abs delta < n → n ≤ 2 ^ 59 → k ≡ shift_of n → t ≡ tangent_of n delta → Known delta n k t
known delta n k t h l e f =
    let s = shifts_as n k (omega arith) l e in
    let d = nat_abs delta * nat_abs delta in
    let q : t * t ≤ (n - d) * 4 ^ k = rw (f, e) (tangent_square n delta) in
    record {
      shifts = s;
      scaled = square_le (nat_abs delta * 2 ^ k) (2 ^ 32) (omega (arith, scaled_square (nat_abs delta) k, mul-le-mul_right (4 ^ k) (le_of_lt h), s.square));
      tangent = square_le t (2 ^ 32) (omega (arith, q, mul-le-mul_right {m = n - d} {n = n} (4 ^ k) (omega arith), s.square));
    }

pub opposite_fits : {t : ℕ} → t ≤ 2 ^ 32 → SFits w64 (pos 0 -ℤ to_z w64 t)
opposite_fits {t} h = rw (to_z_pos w64 {n = t} (omega arith)) (sfits (omega (arith, abs_minus (pos t))))

pub tangent_size : {t : ℕ} → t ≤ 2 ^ 32 → Size (2 ^ 32) (to_z w64 t)
tangent_size {t} h = rw (to_z_pos w64 {n = t} (omega arith)) (record { size = h })

pub opposite_size : {t : ℕ} → t ≤ 2 ^ 32 → Size (2 ^ 32) (bits (pos 0 -ℤ to_z w64 t))
opposite_size {t} h = rw (back (opposite_fits h), to_z_pos w64 {n = t} (omega arith)) (record { size = omega (arith, abs_minus (pos t)) })

pub ruleset tangents = (tangent_size, opposite_size)

module _ (v : Vector) (delta : ℤ) {n k t : ℕ} {r : Vector} (f : SFits w64 delta) (e₁ : n ≡ square_of v) (e₂ : k ≡ shift_of n) (e₃ : t ≡ tangent_of n (bits delta)) (h : t ≤ 2 ^ 32) where
  pub left_is : r ≡ numerator_of v (bits delta) k (to_z w64 t) → r ≡ numerator_of v delta (shift_of (square_of v)) (pos (tangent_of (square_of v) delta))
  left_is g = g ∙ rw (to_z_pos w64 {n = t} (omega arith), e₃, e₂, e₁, back f)

  pub right_is : r ≡ numerator_of v (bits delta) k (bits (pos 0 -ℤ to_z w64 t)) → r ≡ numerator_of v delta (shift_of (square_of v)) (neg_ℤ (pos (tangent_of (square_of v) delta)))
  right_is g = g ∙ rw (back (opposite_fits h), to_z_pos w64 {n = t} (omega arith), minus_is (pos t), e₃, e₂, e₁, back f)

pub divisor_is : (v : Vector) {n k : ℕ} → n ≡ square_of v → k ≡ shift_of n → n * 2 ^ k < 2 ^ 62 → n * 2 ^ k % 2 ^ 64 ≡ square_of v * 2 ^ shift_of (square_of v)
divisor_is v {n} {k} e f h = mod-eq_of_lt (omega arith) ∙ rw (f, e)

-- ---- a contact

limit_fits : {a : ℤ} → Size (2 ^ 28) a → SFits w64 a
limit_fits h = size_fits (2 ^ 28) w64 _ h tt

limit_back : {a : ℤ} → Size (2 ^ 28) a → Size (2 ^ 28) (bits a)
limit_back h = size_back (limit_fits h) h

module _ (x radius n : ℤ) (d : ℕ) (hx : Size (2 ^ 28) x) (hr : Size (2 ^ 28) radius) (h : nat_abs n ≤ d) (k : 0 < d) (l : d < 2 ^ 62) where
  read : to_z w64 d ≡ pos d
  read = to_z_pos w64 (omega arith)

  part_fits : SFits w64 n
  part_fits = sfits (omega arith)

  -- what `mul_div` asks for
  pub ready : (nat_abs (bits radius) ≤ 2 ^ 28) × (nat_abs (bits n) ≤ 4 * nat_abs (to_z w64 d)) × (pos 0 <ℤ to_z w64 d) × (nat_abs (to_z w64 d) < 2 ^ 62)
  ready = rw (back (limit_fits hr), back part_fits, read) (hr.size, omega arith, lt_z_yes (lt→ltb 0 d k), l)

  offset_size : Size (2 ^ 28) (mul_div_of radius n d)
  offset_size = record { size = omega (arith, mul-div_most radius n d k h, hr.size) }

  place_size : Size (2 ^ 29) (x +ℤ mul_div_of radius n d)
  place_size = size_add (2 ^ 28) (2 ^ 28) x _ hx offset_size

  module _ {m : ℤ} (e : m ≡ mul_div_of (bits radius) (bits n) (nat_abs (to_z w64 d))) where
    offset_is : m ≡ mul_div_of radius n d
    offset_is = rw (back (limit_fits hr), back part_fits, read) at e

    pub moved_fits : SFits w64 (bits x +ℤ bits m)
    moved_fits = rw (offset_is, back (limit_fits hx), back (limit_fits offset_size)) (near_fits place_size)

    pub moved_back : bits (bits x +ℤ bits m) ≡ x +ℤ mul_div_of radius n d
    moved_back = rw (offset_is, back (limit_fits hx), back (limit_fits offset_size), back (near_fits place_size))

  -- what is left over is told of the bits
  pub moved_exact : {e : Bool} → e ≡ exact_of (bits radius) (bits n) (nat_abs (to_z w64 d)) → e ≡ exact_of radius n d
  moved_exact f = rw (back (limit_fits hr), back part_fits, read) at f

  place_exact : {e : Bool} → e ≡ exact_of (bits radius) (bits n) d → e ≡ exact_of radius n d
  place_exact f = rw (back (limit_fits hr), back part_fits) at f

  place_back : {p : ℤ} → p ≡ bits x +ℤ mul_div_of (bits radius) (bits n) d → bits p ≡ x +ℤ mul_div_of radius n d
  place_back {p} e =
      let f : p ≡ x +ℤ mul_div_of radius n d = rw (back (limit_fits hx), back (limit_fits hr), back part_fits) at e in
      rw f (back (near_fits place_size))

radius_size : {r : ℤ} → Radius r → Size (2 ^ 28) r
radius_size h = record { size = h.high }

module _ (d : ℕ) (n : Vector) (v : Vertex) (h : Inside v) (k : square_of n ≤ d * d) (i : 0 < d) (l : d < 2 ^ 62) where
  within : (nat_abs n.x ≤ d) × (nat_abs n.y ≤ d)
  within = component_most n d k

  pub x_ready : Size (2 ^ 28) (bits v.x) × Size (2 ^ 28) (bits v.radius) × (nat_abs (bits n.x) ≤ d) × (0 < d) × (d < 2 ^ 62)
  x_ready = (limit_back h.x, limit_back (radius_size h.radius), rw (back {a = n.x} (sfits (omega (arith, within)))) within.0, i, l)

  pub y_ready : Size (2 ^ 28) (bits v.y) × Size (2 ^ 28) (bits v.radius) × (nat_abs (bits n.y) ≤ d) × (0 < d) × (d < 2 ^ 62)
  y_ready = (limit_back h.y, limit_back (radius_size h.radius), rw (back {a = n.y} (sfits (omega (arith, within)))) within.1, i, l)

  pub contact_back : {p q : ℤ} → p ≡ bits v.x +ℤ mul_div_of (bits v.radius) (bits n.x) d → q ≡ bits v.y +ℤ mul_div_of (bits v.radius) (bits n.y) d
      → record { x = bits p; y = bits q } ≡ contact_of d n v
  unfolding contact_of
  contact_back e f = λ j. record {
    x = place_back v.x v.radius n.x d h.x (radius_size h.radius) within.0 i l e j;
    y = place_back v.y v.radius n.y d h.y (radius_size h.radius) within.1 i l f j;
  }

  pub contact_even : {p q r : Bool} → p ≡ exact_of (bits v.radius) (bits n.x) d → q ≡ exact_of (bits v.radius) (bits n.y) d → r ≡ p && q → r ≡ contact_exact d n v
  unfolding contact_exact
  contact_even e f g =
      g
      ∙ rw (
        place_exact v.x v.radius n.x d h.x (radius_size h.radius) within.0 i l e,
        place_exact v.y v.radius n.y d h.y (radius_size h.radius) within.1 i l f,
      )

-- ---- a section

-- the offsets of the step from a to b
pub record Offset (a b : Vertex) (l r : Vector) (d : ℕ) : Type 0 where
  pub left : l ≡ numerator_of (line_of a b) (delta_of a b) (shift_of (square_of (line_of a b))) (pos (tangent_of (square_of (line_of a b)) (delta_of a b)))
  pub right : r ≡ numerator_of (line_of a b) (delta_of a b) (shift_of (square_of (line_of a b))) (neg_ℤ (pos (tangent_of (square_of (line_of a b)) (delta_of a b))))
  pub divisor : d ≡ square_of (line_of a b) * 2 ^ shift_of (square_of (line_of a b))

module _ {a b : Vertex} (h : Inside a) (k : Inside b) {v : Vector} {z : ℤ} (e : v ≡ line_of a b) (f : z ≡ delta_of a b) where
  pub offsets_ready : broken_of a b ≡ false → Line v × (nat_abs (bits z) * nat_abs (bits z) < square_of v)
  offsets_ready g = rw (e, f, back (delta_fits h k)) (line_is h k, not_broken a b g)

  pub offsets_are : {l r : Vector} {d : ℕ} → l ≡ numerator_of v (bits z) (shift_of (square_of v)) (pos (tangent_of (square_of v) (bits z)))
      → r ≡ numerator_of v (bits z) (shift_of (square_of v)) (neg_ℤ (pos (tangent_of (square_of v) (bits z)))) → d ≡ square_of v * 2 ^ shift_of (square_of v)
      → Offset a b l r d
  offsets_are p q s = record {
    left = rw (e, f, back (delta_fits h k)) at p;
    right = rw (e, f, back (delta_fits h k)) at q;
    divisor = rw e at s;
  }

module _ {a b : Vertex} (h : Inside a) (k : Inside b) (e : broken_of a b ≡ false) {l r : Vector} {d : ℕ} (o : Offset a b l r d) where
  divisor_ready : (0 < d) × (d < 2 ^ 62)
  divisor_ready = rw o.divisor (divisor_some h k e, (step_shifts h k e).divisor)

  pub left_ready : Inside a × Inside b × (square_of l ≤ d * d) × (0 < d) × (d < 2 ^ 62)
  left_ready = (h, k, rw (o.left, o.divisor) (side_square h k e _ refl), divisor_ready.0, divisor_ready.1)

  pub right_ready : Inside a × Inside b × (square_of r ≤ d * d) × (0 < d) × (d < 2 ^ 62)
  right_ready = (h, k, rw (o.right, o.divisor) (side_square h k e _ (abs_neg (pos (tangent_of (square_of (line_of a b)) (delta_of a b))))), divisor_ready.0, divisor_ready.1)

-- one side of it, for the numerator s
pub record ContactsAre (a b : Vertex) (d : ℕ) (s : Vector) (m : Edge) (x : Exactness) : Type 0 where
  pub edge : m ≡ record { a = contact_of d s a; b = contact_of d s b }
  pub exact : x ≡ record { a = contact_exact d s a; b = contact_exact d s b }

pub contacts_are : {a b : Vertex} {d : ℕ} {s : Vector} {m : Edge} {x : Exactness} → (m.a ≡ contact_of d s a) × (m.b ≡ contact_of d s b) → (x.a ≡ contact_exact d s a) × (x.b ≡ contact_exact d s b) → ContactsAre a b d s m x
contacts_are p q = record { edge = λ i. record { a = p.0 i; b = p.1 i }; exact = λ i. record { a = q.0 i; b = q.1 i } }

pub section_is : (a b : Vertex) {l r : Vector} {d : ℕ} {m n : Edge} {x y : Exactness} {t : Trend} → Offset a b l r d → ContactsAre a b d l m x → ContactsAre a b d r n y → t ≡ trend_of a b
    → record { a = a; b = b; left = m; right = n; trend = t; exact = record { left = x; right = y } } ≡ section_of a b
unfolding section_of side_of side_exact
section_is a b o p q e = rw (p.edge, q.edge, p.exact, q.exact, e, o.left, o.right, o.divisor)
