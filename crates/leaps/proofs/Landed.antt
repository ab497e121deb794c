-- Rounding keeps the order, so a coordinate lies between those of the lowest and the highest component. Assumes nothing.
use mathlib.Core.Path.{◌≡◌, refl, sym, ap, ◌∙◌}
use mathlib.Core.Bool.{Bool, true, false, ◌&&◌, true≢false}
use Prim.Native.Nat.{ℕ, suc, ◌+◌, ◌^◌, ◌≤◌, ◌<◌}
use native.Mathlib.Nat.{mul-le-mul_right, add-mul}
use native.Mathlib.Omega.{arith}
use borrow.Author.Tests.{eqb-true}
use lib.Dec.{eqb}
use lib.IntN.{ℤ, pos, negsuc, nat_abs, ◌+ℤ◌, ◌-ℤ◌, ◌*ℤ◌}
use lib.Signed.{mag, lt_z, ◌≤ℤ◌}
use mir.Syntax.{w64}
use mir.Val.{SFits, to_z, of_z}
use mir.Facts.{to_z_pos}
use Rattle.whole.specs.Sizes.{Size}
use Rattle.whole.proofs.Signed.{up, down, ext, le_from, le_to, add_balance, up-neg, down-neg, up-mul, down-mul}
use Rattle.whole.proofs.Sizes.{size_add, size_fits}
use Rattle.whole.proofs.Order.{lt_true}
use Rattle.whole.proofs.Squares.{square_le}
use Rattle.number.specs.MulDiv.{nearest_of, rounded_of, mul_div_of}
use Rattle.plane.specs.Vectors.{same_number, same_point, square_of}
use Rattle.plane.specs.Directions.{UnitLong, scaled_of}
use Rattle.plane.specs.OffBy.{less_of, OffBy}
use Rattle.plane.proofs.Products.{bits, back, short_fits, near_fits, small_fits}
use Rattle.plane.proofs.Directions.{unit_short}
use Rattle.plane.specs.declared.Vector.{Vector}
use Rattle.turning.specs.Bounds.{Radius, Turns}
use Rattle.leaps.specs.Landings.{Lowest, Highest, Passes, Meets, Misses, Hits}
use Rattle.turning.specs.declared.Turning.{Turning}
use Rattle.turning.proofs.Limits.{told, radius_back, radius_natural}
use Rattle.turning.proofs.Rays.{same_self, same_is}
use Rattle.leaps.proofs.Distinct.{gap_fits, and_false}

-- ---- the order is kept

-- by rounding
rounded_monotone : (x y : ℤ) → up x + down y ≤ up y + down x → up (rounded_of x (2 ^ 30)) + down (rounded_of y (2 ^ 30)) ≤ up (rounded_of y (2 ^ 30)) + down (rounded_of x (2 ^ 30))
unfolding rounded_of nearest_of
rounded_monotone (pos m) (pos n) h = omega arith
rounded_monotone (pos m) (negsuc n) h = absurd (omega arith)
rounded_monotone (negsuc m) (pos n) h =
    let k = pos (nearest_of (suc m) (2 ^ 30)) in
    omega (arith, up-neg k, down-neg k)
rounded_monotone (negsuc m) (negsuc n) h =
    let k = pos (nearest_of (suc m) (2 ^ 30)) in
    let l = pos (nearest_of (suc n) (2 ^ 30)) in
    omega (arith, up-neg k, down-neg k, up-neg l, down-neg l)

-- by a product with a natural number
product_monotone : (x y : ℤ) (n : ℕ) → up x + down y ≤ up y + down x → up (x *ℤ pos n) + down (y *ℤ pos n) ≤ up (y *ℤ pos n) + down (x *ℤ pos n)
product_monotone x y n h =
    omega (
      arith,
      up-mul x (pos n),
      up-mul y (pos n),
      down-mul x (pos n),
      down-mul y (pos n),
      mul-le-mul_right n h,
      add-mul (up x) (down y) n,
      add-mul (up y) (down x) n,
    )

-- so by a coordinate at a radius
placed : (c x y : ℤ) (n : ℕ) → x ≤ℤ y → (c +ℤ mul_div_of x (pos n) (2 ^ 30)) ≤ℤ (c +ℤ mul_div_of y (pos n) (2 ^ 30))
unfolding mul_div_of
placed c x y n h =
    let a = rounded_of (x *ℤ pos n) (2 ^ 30) in
    let b = rounded_of (y *ℤ pos n) (2 ^ 30) in
    let k : up a + down b ≤ up b + down a = rounded_monotone (x *ℤ pos n) (y *ℤ pos n) (product_monotone x y n (le_to h)) in
    le_from (c +ℤ a) (c +ℤ b) (omega (arith, k, add_balance c a, add_balance c b))

placed_monotone : (c x y : ℤ) {r : ℤ} → Radius r → x ≤ℤ y → (c +ℤ mul_div_of x r (2 ^ 30)) ≤ℤ (c +ℤ mul_div_of y r (2 ^ 30))
placed_monotone c x y k h = rw (← radius_natural k) (placed c x y _ h)

-- ---- a component of vectors that lie near each other

module _ {a : ℕ} {u v : Vector} (h : OffBy a u v) where
  pub part_within : (nat_abs (u.x -ℤ v.x) ≤ a) × (nat_abs (u.y -ℤ v.y) ≤ a)
  unfolding square_of less_of
  part_within = (square_le (nat_abs (u.x -ℤ v.x)) a (omega (arith, h.within)), square_le (nat_abs (u.y -ℤ v.y)) a (omega (arith, h.within)))

-- ---- the lowest and the highest component

module _ {a : ℤ} {off : ℕ} (h : Size (2 ^ 30) a) (k : off ≤ 2 ^ 20) where
  natural : to_z w64 off ≡ pos off
  natural = to_z_pos w64 (omega arith)

  off_size : Size (2 ^ 30) (pos off)
  off_size = record { size = omega arith }

  pub less_fits : SFits w64 (bits a -ℤ to_z w64 off)
  less_fits = rw (back (short_fits h), natural) (gap_fits h off_size)

  sum_fits : SFits w64 (a +ℤ pos off)
  sum_fits = size_fits (2 ^ 31) w64 _ (size_add (2 ^ 30) (2 ^ 30) a (pos off) h off_size) tt

-- ---- a coordinate

differ : (a b : ℤ) → (a ≡ b → ⊥) → same_number a b ≡ false
differ a b f = go (same_number a b) refl
  where
    go : (x : Bool) → same_number a b ≡ x → x ≡ false
    go true e = absurd (f (same_is a b e))
    go false e = refl

-- from what the code has computed on bits: p is the coordinate of the lowest component, q that of the highest
coordinate_back : (c r : ℤ) {d p : ℤ} → Size (2 ^ 28) c → Radius r → Size (2 ^ 30) d → mag p < 2 ^ 63 → p ≡ bits c +ℤ mul_div_of (bits d) (bits r) (2 ^ 30) → bits p ≡ c +ℤ mul_div_of d r (2 ^ 30)
coordinate_back c r hc hr h k e = told k (rw (back (small_fits hc), back (short_fits h), radius_back hr) at e)

module _ (c r a to : ℤ) {off : ℕ} (hc : Size (2 ^ 28) c) (hr : Radius r) (ha : Size (2 ^ 30) a) (ht : SFits w64 to) where
  module _ {l p : ℤ} (h : Lowest (bits a) off l) (k : mag p < 2 ^ 63) (e : p ≡ bits c +ℤ mul_div_of (bits l) (bits r) (2 ^ 30)) where
    lowest_most : (z : ℤ) → Size (2 ^ 30) z → nat_abs (z -ℤ a) ≤ off → bits p ≤ℤ (c +ℤ mul_div_of z r (2 ^ 30))
    lowest_most z i j =
        let g : Lowest a off l = rw (back (short_fits ha)) at h in
        rw (coordinate_back c r hc hr h.size k e) (placed_monotone c l z hr (g.below z i j))

    pub passes_low : {y : Bool} → lt_z (bits to) (bits p) ≡ true → Passes c r a off to y
    passes_low t =
        let s : lt_z to (bits p) ≡ true = rw (back ht) at t in
        record { passes = λ u z i j. differ (c +ℤ mul_div_of z r (2 ^ 30)) to (λ f. omega (arith, lt_true to (bits p) s, le_to (lowest_most z i j), ap up f, ap down f)) }

  module _ {h q : ℤ} (m : Highest (bits a) off h) (k : mag q < 2 ^ 63) (e : q ≡ bits c +ℤ mul_div_of (bits h) (bits r) (2 ^ 30)) where
    highest_least : (z : ℤ) → Size (2 ^ 30) z → nat_abs (z -ℤ a) ≤ off → (c +ℤ mul_div_of z r (2 ^ 30)) ≤ℤ bits q
    highest_least z i j =
        let g : Highest a off h = rw (back (short_fits ha)) at m in
        rw (coordinate_back c r hc hr m.size k e) (placed_monotone c z h hr (g.above z i j))

    pub passes_high : Passes c r a off to (lt_z (bits q) (bits to))
    passes_high = record {
      passes = λ u z i j.
          let s : lt_z (bits q) to ≡ true = rw (back ht) at u in
          differ (c +ℤ mul_div_of z r (2 ^ 30)) to (λ f. omega (arith, lt_true (bits q) to s, le_to (highest_least z i j), ap up f, ap down f));
    }

  pub meets_both : {l p h q : ℤ} → Lowest (bits a) off l → mag p < 2 ^ 63 → p ≡ bits c +ℤ mul_div_of (bits l) (bits r) (2 ^ 30)
      → Highest (bits a) off h → mag q < 2 ^ 63 → q ≡ bits c +ℤ mul_div_of (bits h) (bits r) (2 ^ 30)
      → of_z w64 p ≡ of_z w64 to → Meets c r a off to (eqb (of_z w64 q) (of_z w64 to))
  meets_both {l} {p} {h} {q} low k e high m f s = record {
    meets = λ t z i j.
        let x : bits p ≡ to = ap (to_z w64) s ∙ back ht in
        let y : bits q ≡ to = ap (to_z w64) (eqb-true (of_z w64 q) (of_z w64 to) t) ∙ back ht in
        let n : c +ℤ mul_div_of z r (2 ^ 30) ≡ to = ext _ to (omega (arith, le_to (lowest_most low k e z i j), le_to (highest_least high m f z i j), ap up x, ap down x, ap up y, ap down y)) in
        rw n (same_self to);
  }

pub meets_none : {c r a to : ℤ} {off : ℕ} {t : Bool} → t ≡ false → Meets c r a off to t
meets_none e = record { meets = λ t. absurd (true≢false (sym t ∙ e)) }

-- ---- both coordinates

module _ {c r a to : ℤ} {off : ℕ} {t : Bool} (hc : Size (2 ^ 28) c) (hr : Radius r) (ha : Size (2 ^ 30) a) (ht : Size (2 ^ 29) to) where
  passes_back : Passes (bits c) (bits r) (bits a) off (bits to) t → Passes c r a off to t
  passes_back h = rw (back (small_fits hc), radius_back hr, back (short_fits ha), back (near_fits ht)) at h

  meets_back : Meets (bits c) (bits r) (bits a) off (bits to) t → Meets c r a off to t
  meets_back h = rw (back (small_fits hc), radius_back hr, back (short_fits ha), back (near_fits ht)) at h

-- from what the code has computed on bits: t tells of the first coordinates, u of the second
module _ (r : Turning) (d : Vector) {off : ℕ} (h : Turns r) (k : UnitLong d) where
  pub misses_x : {t y : Bool} → Passes (bits r.centre.x) (bits r.radius) (bits d.x) off (bits r.to.x) t → t ≡ true → Misses r d off y
  unfolding same_point scaled_of
  misses_x p e =
      let f = passes_back h.centre.x h.radius (unit_short k).x h.to.x p in
      record { misses = λ s v i j. ap (λ (b : Bool). b && same_number (r.centre.y +ℤ mul_div_of v.y r.radius (2 ^ 30)) r.to.y) (f.passes e v.x (unit_short i).x (part_within j).0) }

  pub misses_y : {u : Bool} → Passes (bits r.centre.y) (bits r.radius) (bits d.y) off (bits r.to.y) u → Misses r d off u
  unfolding same_point scaled_of
  misses_y p =
      let f = passes_back h.centre.y h.radius (unit_short k).y h.to.y p in
      record {
        misses = λ s v i j.
            let b = same_number (r.centre.x +ℤ mul_div_of v.x r.radius (2 ^ 30)) r.to.x in
            ap (λ (x : Bool). b && x) (f.passes s v.y (unit_short i).y (part_within j).1) ∙ and_false b;
      }

  pub hits_both : {t u : Bool} → Meets (bits r.centre.x) (bits r.radius) (bits d.x) off (bits r.to.x) t → t ≡ true
      → Meets (bits r.centre.y) (bits r.radius) (bits d.y) off (bits r.to.y) u → Hits r d off u
  unfolding same_point scaled_of
  hits_both p e q =
      let f = meets_back h.centre.x h.radius (unit_short k).x h.to.x p in
      let g = meets_back h.centre.y h.radius (unit_short k).y h.to.y q in
      record { hits = λ s v i j. λ x. f.meets e v.x (unit_short i).x (part_within j).0 x && g.meets s v.y (unit_short i).y (part_within j).1 x }
