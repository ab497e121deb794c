-- Covering: one law for each case, with what the code has computed, on bits where it is signed, as variables and equations. Assumes nothing.
use Rattle.std.specs.Prelude.{Option, Some, None}
use Rattle.std.proofs.Math.Bool.{and-true, and-false}
use Rattle.std.proofs.lemmas.Bool.Decides.{nat_tests}
use mathlib.Core.Path.{◌≡◌, refl, sym, ap, ◌∙◌}
use mathlib.Core.Bool.{Bool, true, false, not, ◌&&◌, true≢false}
use Prim.Native.Nat.{ℕ, ◌*◌, ◌^◌}
use native.Mathlib.Omega.{arith}
use borrow.Author.Tests.{eq-eqb, ne_eqb, not-true, not-false, ltb-true}
use lib.Dec.{leb, eqb}
use lib.IntN.{ℤ, pos, negsuc, nat_abs, ◌-ℤ◌, ◌*ℤ◌}
use lib.Signed.{le_z, lt_z}
use mir.Syntax.{w64}
use mir.Val.{SFits, of_z}
use Rattle.whole.specs.Sizes.{Size}
use Rattle.whole.proofs.Order.{abs_minus, minus_is}
use Rattle.whole.proofs.Sizes.{sfits, size_fits}
use Rattle.number.specs.Root.{root_up_of}
use Rattle.plane.specs.Vectors.{Near, Short, same_number, from_to, cross_of, square_of}
use Rattle.plane.proofs.Products.{bits, back, size_back, eq_bits, from_to_short, cross_size}
use Rattle.plane.specs.declared.Point.{Point}
use Rattle.plane.specs.declared.Vector.{Vector}
use Rattle.turning.specs.Bounds.{Radius}
use Rattle.contacts.specs.Contacts.{centre_of, larger_of}
use Rattle.contacts.specs.Covering.{turn_of, inward_of, inside_of, covers_of, covered_of}
use Rattle.contacts.specs.Bounds.{Inside, Around, AroundLast}
use Rattle.turning.proofs.Rays.{about_near}
use Rattle.contacts.proofs.Contacts.{centre_is}
use Rattle.contacts.proofs.Steps.{radius_fits}
use Rattle.contacts.specs.declared.Vertex.{Vertex}
use Rattle.contacts.specs.declared.Section.{Section}

-- ---- the corners of a section's quadrilateral, and ways between near points

pub record Corners (s : Section) : Type 0 where
  pub left_a : Near s.left.a
  pub left_b : Near s.left.b
  pub right_a : Near s.right.a
  pub right_b : Near s.right.b

pub corners : {s : Section} → Around s → Corners s
corners {s} h = record {
  left_a = about_near h.left_a (centre_is h.a);
  left_b = about_near h.left_b (centre_is h.b);
  right_a = about_near h.right_a (centre_is h.a);
  right_b = about_near h.right_b (centre_is h.b);
}

pub way_short : {p q : Point} {v : Vector} → v ≡ from_to p q → Near p → Near q → Short v
way_short e h k = rw e (from_to_short h k)

pub turn_back : (s : Section) {u v : Vector} {r : ℤ} → u ≡ from_to s.left.a s.left.b → v ≡ from_to s.left.b s.right.b → r ≡ cross_of u v → SFits w64 r → bits r ≡ turn_of s
unfolding turn_of
turn_back s e f g h = back h ∙ rw (g, e, f)

-- ---- inwards

module _ (turn z : ℤ) (f : SFits w64 turn) (h : Size (2 ^ 61) z) where
  z_fits : SFits w64 z
  z_fits = size_fits (2 ^ 61) w64 _ h tt

  opposite_fits : SFits w64 (pos 0 -ℤ z)
  opposite_fits = sfits (omega (arith, abs_minus z, h.size))

  pub minus_fits : SFits w64 (pos 0 -ℤ bits z)
  minus_fits = rw (back z_fits) opposite_fits

  pub inward_minus : lt_z (bits turn) (pos 0) ≡ true → bits (pos 0 -ℤ bits z) ≡ inward_of turn z
  unfolding inward_of
  inward_minus e =
      let t : lt_z turn (pos 0) ≡ true = rw (back f) at e in
      rw (t, inward_of, back z_fits, back opposite_fits) (minus_is z)

  pub inward_same : lt_z (bits turn) (pos 0) ≡ false → bits z ≡ inward_of turn z
  unfolding inward_of
  inward_same e = let t : lt_z turn (pos 0) ≡ false = rw (back f) at e in rw (t, inward_of) (back z_fits)

-- ---- a side

-- a number is at least 0 or below it
at_least : (z : ℤ) → le_z (pos 0) z ≡ not (lt_z z (pos 0))
at_least (pos n) = grind (arith, nat_tests)
at_least (negsuc n) = refl

pub not_below : (z : ℤ) → le_z (pos 0) z ≡ true → lt_z z (pos 0) ≡ false
not_below z e = not-true (lt_z z (pos 0)) (sym (at_least z) ∙ e)

pub below : (z : ℤ) → le_z (pos 0) z ≡ false → lt_z z (pos 0) ≡ true
below z e = not-false (lt_z z (pos 0)) (sym (at_least z) ∙ e)

pub cross_back : {u v : Vector} {r : ℤ} → r ≡ cross_of u v → Short u → Short v → Size (2 ^ 61) (bits r)
cross_back e h k = rw e (size_back (size_fits (2 ^ 61) w64 _ (cross_size h k) tt) (cross_size h k))

-- a radius times a length, and a number below 0 or not
above_negative : (r z : ℤ) (n : ℕ) → Radius r → lt_z z (pos 0) ≡ true → le_z (r *ℤ pos n) z ≡ false
above_negative (pos r) (pos z) n h e = absurd (omega (arith, ltb-true z 0 e))
above_negative (pos r) (negsuc z) n h e = refl
above_negative (negsuc r) z n h e = absurd h.low.le

above_natural : (r z : ℤ) (n : ℕ) → Radius r → lt_z z (pos 0) ≡ false → le_z (r *ℤ pos n) z ≡ leb (nat_abs r * n) (nat_abs z)
above_natural (pos r) (pos z) n h e = refl
above_natural (pos r) (negsuc z) n h e = absurd (true≢false e)
above_natural (negsuc r) z n h e = absurd h.low.le

pub inside_as : (turn : ℤ) (b : Vertex) (p q : Point) {v w : Vector} {o : Point} {x z : ℤ} → SFits w64 turn → SFits w64 x
    → v ≡ from_to p q → o ≡ centre_of b → w ≡ from_to p o → x ≡ cross_of v w → z ≡ inward_of (bits turn) (bits x)
    → inside_of turn b p q ≡ le_z (b.radius *ℤ pos (root_up_of (square_of v))) z
unfolding inside_of
inside_as turn b p q ft fx e₁ e₂ e₃ e₄ e₅ = rw (e₅, back ft, back fx, e₄, e₃, e₂, e₁)

module _ (r z : ℤ) (n : ℕ) {i : Bool} (h : Radius r) (f : SFits w64 z) (e : i ≡ le_z (r *ℤ pos n) z) where
  pub inside_out : lt_z (bits z) (pos 0) ≡ true → false ≡ i
  inside_out t = sym (e ∙ above_negative r z n h (rw (back f) at t))

  pub inside_tells : {y : Bool} → lt_z (bits z) (pos 0) ≡ false → y ≡ leb (nat_abs (bits r) * n) (nat_abs (bits z)) → y ≡ i
  inside_tells {y} t g =
      let g' : y ≡ leb (nat_abs r * n) (nat_abs z) = rw (back (radius_fits h), back f) at g in
      g' ∙ sym (e ∙ above_natural r z n h (rw (back f) at t))

-- ---- all sides, one after another, with the turn z: each test holds where the one before holds and its own does

and_swap : (x y z : Bool) → (x && y && z) ≡ (x && z && y)
and_swap true y true = simp and-true
and_swap true y false = simp and-false
and_swap false y z = refl

module _ (s : Section) (b : Vertex) {z : ℤ} (e : z ≡ turn_of s) (f : SFits w64 z) where
  side : (p q : Point) {x y : Bool} → y ≡ x → x ≡ inside_of (bits z) b p q → y ≡ inside_of (turn_of s) b p q
  side p q h g = h ∙ rw (back f, e) at g

  flat : {y : Bool} → eqb (of_z w64 z) 0 ≡ y → same_number (turn_of s) (pos 0) ≡ y
  flat g = rw (← e) (sym (eq_bits z (pos 0) f.sfits (omega arith)) ∙ g)

  module _ (p q : Point) {y : Bool} where
    pub turned : {x : Bool} → (of_z w64 z ≡ 0 → ⊥) → y ≡ x → x ≡ inside_of (bits z) b p q → y ≡ (not (same_number (turn_of s) (pos 0)) && inside_of (turn_of s) b p q)
    turned t h g = rw (flat (ne_eqb (of_z w64 z) 0 t)) (side p q h g)

    pub not_turned : of_z w64 z ≡ 0 → y ≡ not (eqb (of_z w64 z) 0) → y ≡ (not (same_number (turn_of s) (pos 0)) && inside_of (turn_of s) b p q)
    not_turned t h = rw (flat (eq-eqb (of_z w64 z) 0 t)) (h ∙ ap not (eq-eqb (of_z w64 z) 0 t))

    pub and_side : {x : Bool} (u : Bool) → u ≡ true → y ≡ x → x ≡ inside_of (bits z) b p q → y ≡ (u && inside_of (turn_of s) b p q)
    and_side u t h g = rw t (side p q h g)

    pub not_side : (u : Bool) → u ≡ false → y ≡ u → y ≡ (u && inside_of (turn_of s) b p q)
    not_side u t h = rw t (h ∙ t)

pub covers_sides : (s : Section) (b : Vertex) (u v w : Bool) {r : Bool}
    → u ≡ (not (same_number (turn_of s) (pos 0)) && inside_of (turn_of s) b s.left.b s.right.b) → v ≡ (u && inside_of (turn_of s) b s.left.a s.left.b)
    → w ≡ (v && inside_of (turn_of s) b s.right.b s.right.a) → r ≡ (w && inside_of (turn_of s) b s.right.a s.left.a) → r ≡ covers_of s b
unfolding covers_of
covers_sides s b u v w d e f g =
    rw (f, e, d, and_swap (not (same_number (turn_of s) (pos 0))) (inside_of (turn_of s) b s.left.b s.right.b) (inside_of (turn_of s) b s.left.a s.left.b)) at g

-- ---- the section of the previous step, if it was drawn

pub covered_nothing : (l : Option Section) (b : Vertex) → l ≡ None → false ≡ covered_of l b
unfolding covered_of
covered_nothing l b e = rw e

pub held_around : (l : Option Section) {s : Section} → l ≡ Some s → AroundLast l → Around s
unfolding AroundLast
held_around l e h = rw e at h

module _ (l : Option Section) (b : Vertex) {s : Section} {z : ℤ} (e : l ≡ Some s) (h : Inside b) (f : z ≡ larger_of s.a s.b) (k : SFits w64 z) where
  pub covered_not : lt_z (bits b.radius) (bits z) ≡ false → false ≡ covered_of l b
  unfolding covered_of
  covered_not t =
      let t' : lt_z b.radius (larger_of s.a s.b) ≡ false = rw (back k, back (radius_fits h.radius), f) at t in
      rw (e, t')

  pub covered_as : {x : Bool} → lt_z (bits b.radius) (bits z) ≡ true → x ≡ covers_of s b → x ≡ covered_of l b
  unfolding covered_of
  covered_as t g =
      let t' : lt_z b.radius (larger_of s.a s.b) ≡ true = rw (back k, back (radius_fits h.radius), f) at t in
      g ∙ rw (e, t')
