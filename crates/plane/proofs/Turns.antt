-- A turned vector from what the code has computed on bits. Assumes nothing.
use mathlib.Core.Path.{◌≡◌}
use Prim.Native.Nat.{◌^◌}
use lib.IntN.{ℤ, pos, ◌+ℤ◌, ◌-ℤ◌, ◌*ℤ◌}
use lib.Signed.{quot_z}
use mir.Syntax.{w64}
use Rattle.whole.proofs.Sizes.{quot_fits}
use Rattle.plane.specs.Vectors.{Short}
use Rattle.plane.specs.Directions.{rotated_of}
use Rattle.plane.proofs.Products.{bits, back, short_fits, sum_fits, difference_fits}
use Rattle.plane.specs.declared.Vector.{Vector}

-- the two products, without the bits
module _ {t v : Vector} (h : Short t) (k : Short v) where
  pub first_is : {a : ℤ} → a ≡ bits t.x *ℤ bits v.x -ℤ bits t.y *ℤ bits v.y → a ≡ t.x *ℤ v.x -ℤ t.y *ℤ v.y
  first_is e = rw (back (short_fits h.x), back (short_fits h.y), back (short_fits k.x), back (short_fits k.y)) at e

  pub second_is : {a : ℤ} → a ≡ bits t.y *ℤ bits v.x +ℤ bits t.x *ℤ bits v.y → a ≡ t.y *ℤ v.x +ℤ t.x *ℤ v.y
  second_is e = rw (back (short_fits h.x), back (short_fits h.y), back (short_fits k.x), back (short_fits k.y)) at e

pub turned_back : (t v : Vector) {a b c d : ℤ} → Short t → Short v
    → a ≡ bits t.x *ℤ bits v.x -ℤ bits t.y *ℤ bits v.y → b ≡ quot_z (bits a) (pos (2 ^ 30))
    → c ≡ bits t.y *ℤ bits v.x +ℤ bits t.x *ℤ bits v.y → d ≡ quot_z (bits c) (pos (2 ^ 30))
    → record { x = bits b; y = bits d } ≡ rotated_of t v
unfolding rotated_of
turned_back t v {a} {b} {c} {d} h k e f g i =
    let fa = difference_fits h.x k.x h.y k.y in
    let fc = sum_fits h.y k.x h.x k.y in
    rw (f, i, first_is h k e, second_is h k g, back fa, back fc, back (quot_fits (2 ^ 30) w64 _ fa), back (quot_fits (2 ^ 30) w64 _ fc))
