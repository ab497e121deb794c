-- What the limits leave of centres, radii and inner points, and what the code has computed of them on bits. Assumes nothing.
use mathlib.Core.Path.{◌≡◌, refl, ap, ◌∙◌}
use Prim.Native.Nat.{◌^◌, ◌<◌}
use native.Mathlib.Omega.{arith}
use lib.IntN.{ℤ, pos, nat_abs, ◌+ℤ◌, ◌-ℤ◌}
use lib.Signed.{mag, quot_z, yes_non_neg, pos-nat_abs}
use mir.Syntax.{w64}
use mir.Val.{SFits}
use Rattle.whole.specs.Sizes.{Size}
use Rattle.whole.proofs.Sizes.{size_add, size_sub}
use Rattle.number.specs.MulDiv.{mul_div_of}
use Rattle.plane.specs.Vectors.{Near}
use Rattle.plane.specs.Directions.{UnitLong, rotated_of, scaled_of}
use Rattle.plane.specs.Swings.{swing_of, heading_of, Swings}
use Rattle.plane.proofs.Products.{bits, back, short_fits, near_fits, small_fits}
use Rattle.plane.proofs.Directions.{unit_short, turned_unit, scaled_most}
use Rattle.plane.proofs.Swinging.{heading_swing, swing_reach}
use Rattle.plane.specs.declared.Point.{Point}
use Rattle.plane.specs.declared.Vector.{Vector}
use Rattle.plane.specs.declared.rotation.Swing.{Swing}
use Rattle.turning.specs.Arcs.{east_of, west_of}
use Rattle.turning.specs.Bounds.{Centre, Radius, Turns}

-- a result of a call, read back from its bits
pub told : {z v : ℤ} → mag z < 2 ^ 63 → z ≡ v → bits z ≡ v
told h e = back (record { sfits = h }) ∙ e

-- ---- a coordinate or an offset of at most 2 ^ 28

pub sum_near : {a b : ℤ} → Size (2 ^ 28) a → Size (2 ^ 28) b → Size (2 ^ 29) (a +ℤ b)
sum_near h k = size_add (2 ^ 28) (2 ^ 28) _ _ h k

pub moved_fits : {a b : ℤ} → Size (2 ^ 28) a → Size (2 ^ 28) b → SFits w64 (a +ℤ b)
moved_fits h k = near_fits (sum_near h k)

-- s is the sum as the code has it
sum_back : {a b s : ℤ} → Size (2 ^ 28) a → Size (2 ^ 28) b → s ≡ bits a +ℤ bits b → bits s ≡ a +ℤ b
sum_back {a} {b} {s} h k e =
    let f : s ≡ a +ℤ b = rw (back (small_fits h), back (small_fits k)) at e in
    rw f (back (moved_fits h k))

pub centre_near : {c : Point} → Centre c → Near c
centre_near h = record { x = record { size = omega (arith, h.x.size) }; y = record { size = omega (arith, h.y.size) } }

-- ---- a radius

radius_size : {r : ℤ} → Radius r → Size (2 ^ 28) r
radius_size h = record { size = h.high }

pub radius_near : {r : ℤ} → Radius r → Size (2 ^ 29) r
radius_near h = record { size = omega (arith, h.high) }

pub radius_back : {r : ℤ} → Radius r → bits r ≡ r
radius_back h = back (small_fits (radius_size h))

pub radius_told_lem : {r : ℤ} → Radius r → Radius (bits r)
radius_told_lem h = rw (radius_back h) h

pub radius_natural : {r : ℤ} → Radius r → pos (nat_abs r) ≡ r
radius_natural {r} h = pos-nat_abs r (yes_non_neg h.low)

-- ---- the ends of a circle's arcs, from what the code has computed

pub east_fits : {a r : ℤ} → Size (2 ^ 28) a → Radius r → SFits w64 (bits a +ℤ bits r)
east_fits h k = rw (back (small_fits h), radius_back k) (moved_fits h (radius_size k))

pub east_back : (c : Point) (r : ℤ) {a : ℤ} → Centre c → Radius r → a ≡ bits c.x +ℤ bits r → record { x = bits a; y = bits c.y } ≡ east_of c r
unfolding east_of
east_back c r h k e = λ i. record { x = sum_back h.x (radius_size k) e i; y = back (small_fits h.y) i }

pub west_fits : {a r : ℤ} → Size (2 ^ 28) a → Radius r → SFits w64 (bits a -ℤ bits r)
west_fits h k = rw (back (small_fits h), radius_back k) (near_fits (size_sub (2 ^ 28) (2 ^ 28) _ _ h (radius_size k)))

pub west_back : (c : Point) (r : ℤ) {a : ℤ} → Centre c → Radius r → a ≡ bits c.x -ℤ bits r → record { x = bits a; y = bits c.y } ≡ west_of c r
unfolding west_of
west_back c r {a} h k e =
    let f : bits a ≡ c.x -ℤ r = rw e (back (west_fits h.x k) ∙ (rw (back (small_fits h.x), radius_back k))) in
    λ i. record { x = f i; y = back (small_fits h.y) i }

-- ---- an inner point

offset_size : (d r : ℤ) → Size (2 ^ 30) d → Radius r → Size (2 ^ 28) (mul_div_of d r (2 ^ 30))
offset_size d r h k = record { size = rw (← radius_natural k) (omega (arith, scaled_most d (nat_abs r) h.size, k.high)) }

-- from what the code has computed on bits: s is the offset, a the coordinate moved by it
offset_is : {d r s : ℤ} → Size (2 ^ 30) d → Radius r → s ≡ mul_div_of (bits d) (pos (nat_abs (bits r))) (2 ^ 30) → s ≡ mul_div_of d r (2 ^ 30)
offset_is h k e = rw (radius_back k, radius_natural k, back (short_fits h)) at e

pub offset_small : {d r s : ℤ} → Size (2 ^ 30) d → Radius r → s ≡ mul_div_of (bits d) (pos (nat_abs (bits r))) (2 ^ 30) → Size (2 ^ 28) s
offset_small {d} {r} h k e = rw (offset_is h k e) (offset_size d r h k)

pub moved_back : (c d r : ℤ) {s a : ℤ} → Size (2 ^ 28) c → Size (2 ^ 30) d → Radius r → s ≡ mul_div_of (bits d) (pos (nat_abs (bits r))) (2 ^ 30) → a ≡ bits c +ℤ bits s
    → bits a ≡ c +ℤ mul_div_of d r (2 ^ 30)
moved_back c d r h k l e f = rw (offset_is k l e) at (sum_back h (offset_small k l e) f)

pub point_back : (c : Point) (r : ℤ) (d : Vector) {s t a b : ℤ} → Centre c → Radius r → UnitLong d
    → s ≡ mul_div_of (bits d.x) (pos (nat_abs (bits r))) (2 ^ 30) → t ≡ mul_div_of (bits d.y) (pos (nat_abs (bits r))) (2 ^ 30)
    → a ≡ bits c.x +ℤ bits s → b ≡ bits c.y +ℤ bits t → record { x = bits a; y = bits b } ≡ scaled_of c r d
unfolding scaled_of
point_back c r d h k l e f g i =
    let u = unit_short l in
    λ j. record { x = moved_back c.x d.x r h.x u.x k e g j; y = moved_back c.y d.y r h.y u.y k f i j }

-- or the coordinate moved by it at once
landed_back : (c d r : ℤ) {a : ℤ} → Size (2 ^ 28) c → Size (2 ^ 30) d → Radius r → a ≡ bits c +ℤ mul_div_of (bits d) (pos (nat_abs (bits r))) (2 ^ 30)
    → bits a ≡ c +ℤ mul_div_of d r (2 ^ 30)
landed_back c d r {a} h k l e =
    let f : a ≡ c +ℤ mul_div_of d r (2 ^ 30) = rw (back (small_fits h), offset_is k l refl) at e in
    rw f (back (moved_fits h (offset_size d r k l)))

pub point_landed : (c : Point) (r : ℤ) (d : Vector) {a b : ℤ} → Centre c → Radius r → UnitLong d
    → a ≡ bits c.x +ℤ mul_div_of (bits d.x) (pos (nat_abs (bits r))) (2 ^ 30) → b ≡ bits c.y +ℤ mul_div_of (bits d.y) (pos (nat_abs (bits r))) (2 ^ 30)
    → record { x = bits a; y = bits b } ≡ scaled_of c r d
unfolding scaled_of
point_landed c r d h k l e f =
    let u = unit_short l in
    λ j. record { x = landed_back c.x d.x r h.x u.x k e j; y = landed_back c.y d.y r h.y u.y k f j }

-- what it asks for of a swing and the direction that it comes to
divided_back : {d z : ℤ} → Size (2 ^ 30) d → SFits w64 z → d ≡ quot_z z (pos (2 ^ 30)) → bits d ≡ quot_z (bits z) (pos (2 ^ 30))
divided_back h k e = rw (back (short_fits h), back k) e

pub heading_x : {d : Vector} (s : Swing) → UnitLong d → SFits w64 s.x → d ≡ heading_of s → bits d.x ≡ quot_z (bits s.x) (pos (2 ^ 30))
unfolding heading_of
heading_x s h k e = divided_back (unit_short h).x k (ap (λ (v : Vector). v.x) e)

pub heading_y : {d : Vector} (s : Swing) → UnitLong d → SFits w64 s.y → d ≡ heading_of s → bits d.y ≡ quot_z (bits s.y) (pos (2 ^ 30))
unfolding heading_of
heading_y s h k e = divided_back (unit_short h).y k (ap (λ (v : Vector). v.y) e)

-- it is near
pub point_near : {c : Point} {r : ℤ} {d : Vector} → Centre c → Radius r → UnitLong d → Near (scaled_of c r d)
unfolding scaled_of
point_near {c} {r} {d} h k l =
    let u = unit_short l in
    record { x = sum_near h.x (offset_size d.x r u.x k); y = sum_near h.y (offset_size d.y r u.y k) }

-- as the code has computed it, from the radius's bits
pub point_is : (c : Point) (d : Vector) {q : Point} {r : ℤ} → Radius r → q ≡ scaled_of c (bits r) d → q ≡ scaled_of c r d
point_is c d h e = rw (radius_back h) at e

pub point_reach : {c : Point} {d : Vector} {q : Point} {r : ℤ} → Centre c → Radius r → UnitLong d → q ≡ scaled_of c (bits r) d → Near q
point_reach {c} {d} h k l e = rw (point_is c d k e) (point_near h k l)

-- the next direction, by way of what it is divided from
pub swing_told : {t d : Vector} {s : Swing} → UnitLong t → UnitLong d → s ≡ swing_of t d → Swings s
swing_told h k e = rw e (swing_reach h k)

pub swing_next : (t d : Vector) {n : Vector} {s : Swing} → s ≡ swing_of t d → n ≡ heading_of s → n ≡ rotated_of t d
swing_next t d e f = f ∙ ap heading_of e ∙ heading_swing t d

pub next_unit : {t d n : Vector} → UnitLong t → UnitLong d → n ≡ rotated_of t d → UnitLong n
next_unit h k e = rw e (turned_unit h k)

pub swing_unit : {t d : Vector} {s : Swing} → UnitLong t → UnitLong d → s ≡ swing_of t d → UnitLong (heading_of s)
swing_unit h k e = next_unit h k (swing_next _ _ e refl)

-- what an arc keeps, with the radius's bits
pub turns_within : {t u : Vector} {c q : Point} {r : ℤ} → UnitLong t → Centre c → Radius r → Near q → UnitLong u → Turns (record { step = t; centre = c; radius = bits r; to = q; toward = u })
turns_within h k l i j = record { step = h; centre = k; radius = radius_told_lem l; to = i; toward = j }
