-- A vertex is allowed just where it is within the limits. Assumes nothing.
use mathlib.Core.Path.{◌≡◌, refl, sym, ◌∙◌}
use mathlib.Core.Bool.{true, and-eq-true_iff, true≢false, false, ◌&&◌, Bool}
use Prim.Native.Nat.{◌^◌, ◌≤◌, suc}
use native.Mathlib.Omega.{arith}
use borrow.Author.Tests.{leb-true}
use lib.IntN.{ℤ, pos, negsuc}
use lib.Signed.{le_z}
use Rattle.std.proofs.Math.Bool.{and_assoc}
use Rattle.std.specs.Prelude.{Some}
use Rattle.std.specs.Ordering.{int_cmp, is_le}
use Rattle.std.specs.Range.{range_inclusive_start, range_inclusive_end, range_inclusive_exhausted, range_inclusive_contains}
use Rattle.std.specs.declared.ops.RangeInclusive.{RangeInclusive}
use Rattle.std.proofs.lemmas.Bool.Decides.{nat_tests}
use Rattle.whole.specs.Sizes.{Size}
use Rattle.whole.proofs.Signed.{le_from}
use Rattle.turning.specs.Bounds.{Radius}
use Rattle.contacts.specs.Limits.{allowed_of, first_outside}
use Rattle.contacts.specs.Bounds.{Inside}
use Rattle.contacts.specs.declared.Vertex.{Vertex}
use mathlib.Core.List.{List, [], ◌∷◌}
use lib.ListN.{length}
use Rattle.contacts.specs.declared.Vertex.{Vertex}

-- a coordinate, a radius
size_is : (z : ℤ) → le_z (negsuc 268435455) z ≡ true → le_z z (pos 268435456) ≡ true → Size (2 ^ 28) z
size_is (pos n) h k = record { size = leb-true n 268435456 k }
size_is (negsuc n) h k = record { size = omega (arith, leb-true n 268435455 h) }

radius_is : (z : ℤ) → le_z (pos 0) z ≡ true → le_z z (pos 268435456) ≡ true → Radius z
radius_is (pos n) h k = record { low = le_from (pos 0) (pos n) (omega arith); high = leb-true n 268435456 k }
radius_is (negsuc n) h k = absurd (true≢false (sym h))

pub inside_of_lem : {v : Vertex} → allowed_of v ≡ true → Inside v
unfolding allowed_of
inside_of_lem {v} e =
    let p₅ = (and-eq-true_iff _ _).0 e in
    let p₄ = (and-eq-true_iff _ _).0 p₅.0 in
    let p₃ = (and-eq-true_iff _ _).0 p₄.0 in
    let p₂ = (and-eq-true_iff _ _).0 p₃.0 in
    let p₁ = (and-eq-true_iff _ _).0 p₂.0 in
    record { x = size_is v.x p₁.0 p₁.1; y = size_is v.y p₂.1 p₃.1; radius = radius_is v.radius p₄.1 p₅.1 }

-- the library's order of signed numbers is the limits'
cmp_le : (x y : ℤ) → is_le (int_cmp x y) ≡ le_z x y
cmp_le (pos m) (pos n) = grind (arith, nat_tests)
cmp_le (pos m) (negsuc n) = refl
cmp_le (negsuc m) (pos n) = refl
cmp_le (negsuc m) (negsuc n) = grind (arith, nat_tests)

pub in_range : {r : RangeInclusive ℤ} {low high : ℤ} (x : ℤ) {b : Bool} → range_inclusive_start r ≡ low → range_inclusive_end r ≡ high → range_inclusive_exhausted r ≡ false
    → b ≡ range_inclusive_contains (λ (y z : ℤ). Some (int_cmp y z)) r x → b ≡ (le_z low x && le_z x high)
in_range {r} {low} {high} x e f g h = rw (e, f, g, cmp_le low x, cmp_le x high) at h

module _ (v : Vertex) {x : Bool} (e : x ≡ (le_z (negsuc 268435455) v.x && le_z v.x (pos 268435456))) where
  pub not_across : x ≡ false → false ≡ allowed_of v
  unfolding allowed_of
  not_across h = rw (sym e ∙ h)

  module _ {y : Bool} (f : y ≡ (le_z (negsuc 268435455) v.y && le_z v.y (pos 268435456))) (h : x ≡ true) where
    pub not_up : y ≡ false → false ≡ allowed_of v
    unfolding allowed_of
    not_up k = rw (sym e ∙ h, and_assoc true, sym f ∙ k)

    pub all_allowed : {r : Bool} → y ≡ true → r ≡ (le_z (pos 0) v.radius && le_z v.radius (pos 268435456)) → r ≡ allowed_of v
    unfolding allowed_of
    all_allowed k g = rw (sym e ∙ h, g, and_assoc true, sym f ∙ k)

pub inside_first : (v : Vertex) (vs : List Vertex) → first_outside (v ∷ vs) ≡ suc (length vs) → (allowed_of v ≡ true) × (first_outside vs ≡ length vs)
unfolding first_outside
inside_first v vs h = go (allowed_of v) refl h
  where
    go : (x : Bool) → allowed_of v ≡ x → elim x [ true ↦ suc (first_outside vs) | false ↦ 0 ] ≡ suc (length vs) → (allowed_of v ≡ true) × (first_outside vs ≡ length vs)
    go true e k = (e, omega arith)
    go false e k = absurd (omega arith)

pub outside_most : (vs : List Vertex) → first_outside vs ≤ length vs
unfolding first_outside
outside_most [] = omega arith
outside_most (v ∷ vs) = go (allowed_of v) (outside_most vs)
  where
    go : (x : Bool) → first_outside vs ≤ length vs → elim x [ true ↦ suc (first_outside vs) | false ↦ 0 ] ≤ suc (length vs)
    go true h = omega arith
    go false h = omega arith
