-- What the code has read of the table and tested, from its bits. Assumes nothing.
use mathlib.Core.Path.{◌≡◌, refl, sym, ap, ◌∙◌}
use mathlib.Core.Bool.{Bool, true, false, true≢false}
use mathlib.Core.List.{List}
use Prim.Native.Nat.{ℕ, ◌+◌, ◌^◌, ◌<◌}
use native.Mathlib.Omega.{arith}
use borrow.Author.Tests.{eqb-true}
use lib.Dec.{eqb}
use lib.IntN.{ℤ, pos, neg_ℤ, ◌-ℤ◌}
use lib.Signed.{mag, lt_z}
use mir.Syntax.{w32, w64}
use mir.Val.{SFits, to_z, of_z}
use mir.Facts.{to_z-of_z}
use Rattle.whole.specs.Sizes.{Size}
use Rattle.whole.proofs.Sizes.{size_fits}
use Rattle.whole.proofs.Order.{minus_is, abs_minus}
use Rattle.plane.specs.Directions.{UnitLong, step_of}
use Rattle.plane.proofs.Products.{bits, back, short_fits}
use Rattle.plane.proofs.Directions.{unit_short, step_unit}
use Rattle.plane.specs.declared.Vector.{Vector}
use Rattle.turning.proofs.Mirrored.{minus}
use Rattle.leaps.specs.Leaps.{turned_of}
use Rattle.leaps.proofs.Leaping.{many_unit}
use Rattle.half_turn.specs.Pairs.{axis_of, pair_of, Tabled, Finest, Axial}
use Rattle.half_turn.proofs.Rotations.{step_eight, many_minus}
use Rattle.half_turn.proofs.Halves.{axis_unit}

-- ---- a pair

pub pair_unit : {v : Vector} (n : ℕ) (back : Bool) → v ≡ turned_of n (step_of 8) (axis_of back) → UnitLong v
pair_unit n back e = rw e (many_unit n (step_of 8) (axis_of back) (step_unit 8 refl) (axis_unit back))

-- by the same step under another name
pub pair_step : {v t : Vector} (n : ℕ) (a : Vector) → t ≡ step_of 8 → v ≡ turned_of n (step_of 8) a → v ≡ turned_of n t a
pair_step n a e f = f ∙ ap (λ t. turned_of n t a) (sym e)

-- a component read from 32 bits, and 0 less it
read_back : {x : ℤ} → Size (2 ^ 30) x → bits (to_z w32 (of_z w32 x)) ≡ x
read_back {x} h = rw (to_z-of_z {w = w32} {z = x} (size_fits (2 ^ 30) w32 x h tt)) (back (short_fits h))

minus_fits : {x : ℤ} → Size (2 ^ 30) x → SFits w64 (pos 0 -ℤ x)
minus_fits {x} h = short_fits (record { size = omega (arith, abs_minus x, h.size) })

minus_back : {x : ℤ} → Size (2 ^ 30) x → bits (pos 0 -ℤ bits (to_z w32 (of_z w32 x))) ≡ neg_ℤ x
minus_back {x} h = rw (read_back h) (back (minus_fits h) ∙ minus_is x)

pub pair_west : {ps : List (ℤ × ℤ)} {i : ℕ} {b : Bool} → Tabled ps → i < 402 → b ≡ true
    → record { x = bits (pos 0 -ℤ bits (to_z w32 (of_z w32 (pair_of ps i).x))); y = bits (pos 0 -ℤ bits (to_z w32 (of_z w32 (pair_of ps i).y))) } ≡ turned_of (i + 1) (step_of 8) (axis_of b)
unfolding axis_of
pair_west {ps} {i} h k g =
    let s = unit_short (pair_unit (i + 1) false (h.rule i k)) in
    (λ j. record { x = minus_back s.x j; y = minus_back s.y j })
    ∙ ap minus (h.rule i k)
    ∙ sym (many_minus (i + 1) (step_of 8) (axis_of false))
    ∙ ap (λ (b : Bool). turned_of (i + 1) (step_of 8) (axis_of b)) (sym g)

-- ---- tests

-- a number that has the bits n
bits_are : {a : ℤ} (n : ℕ) → mag a < 2 ^ 63 → of_z w64 a ≡ n → a ≡ to_z w64 n
bits_are n h e = sym (to_z-of_z {w = w64} (record { sfits = h })) ∙ ap (to_z w64) e

pub finest_told : (t : Vector) → mag t.x < 2 ^ 63 → mag t.y < 2 ^ 63 → of_z w64 t.x ≡ 1073709056 → Finest t (eqb (of_z w64 t.y) 8388480)
finest_told t h k e = record { finest = λ f. (λ i. record { x = bits_are {a = t.x} 1073709056 h e i; y = bits_are {a = t.y} 8388480 k (eqb-true _ _ f) i }) ∙ step_eight }

pub finest_not : (t : Vector) {n : ℕ} → (n ≡ 1073709056 → ⊥) → Finest t (eqb n 1073709056)
finest_not t h = record { finest = λ f. absurd (h (eqb-true _ _ f)) }

pub axial_not : (d : Vector) → Axial d false
axial_not d = record { axial = λ f. absurd (true≢false (sym f)) }

module _ (d : Vector) (h : mag d.x < 2 ^ 63) (k : mag d.y < 2 ^ 63) (e : of_z w64 d.y ≡ 0) where
  -- it is the end of the axis that its x tells
  end_told : (back : Bool) → d.x ≡ (axis_of back).x → lt_z (axis_of back).x (pos 0) ≡ back → d ≡ axis_of (lt_z d.x (pos 0))
  unfolding axis_of
  end_told back f g = (λ i. record { x = f i; y = bits_are {a = d.y} 0 k e i }) ∙ shape back ∙ ap axis_of (sym g ∙ ap (λ (z : ℤ). lt_z z (pos 0)) (sym f))
    where
      shape : (b : Bool) → record { x = (axis_of b).x; y = pos 0 } ≡ axis_of b
      shape false = refl
      shape true = refl

  pub axial_east : {x : Bool} → of_z w64 d.x ≡ 1073741824 → Axial d x
  unfolding axis_of
  axial_east f = record { axial = λ _. end_told false (bits_are {a = d.x} 1073741824 h f) refl }

  pub axial_west : Axial d (eqb (of_z w64 d.x) 18446744072635809792)
  unfolding axis_of
  axial_west = record { axial = λ f. end_told true (bits_are {a = d.x} 18446744072635809792 h (eqb-true _ _ f)) refl }
