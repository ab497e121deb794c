-- Vertices, radii, the kinds of step and the trend: one law for each case, with what the code has computed, on bits where it is signed, as
-- variables and equations. Assumes nothing.
use mathlib.Core.Path.{◌≡◌, refl, ap, ◌∙◌}
use mathlib.Core.Bool.{Bool, true, false, cond}
use Prim.Native.Nat.{ℕ, ◌*◌, ◌^◌, ◌≤◌, ◌<◌}
use native.Mathlib.Nat.{mul-le-mul}
use native.Mathlib.Omega.{arith}
use borrow.Author.Tests.{le-leb, lt-leb}
use lib.IntN.{ℤ, pos, negsuc, nat_abs, ◌-ℤ◌}
use lib.Signed.{le_z, lt_z}
use mir.Syntax.{w64}
use mir.Val.{SFits}
use Rattle.std.specs.Int.{int_max}
use Rattle.std.specs.Ordering.{int_cmp}
use Rattle.std.specs.declared.cmp.Ordering.{Ordering}
use Rattle.std.specs.declared.cmp.Ordering.TheVariants.{Less, Equal, Greater}
use Rattle.std.proofs.lemmas.Bool.Decides.{nat_tests}
use Rattle.whole.proofs.Sizes.{sfits}
use Rattle.plane.specs.Vectors.{Near, Short, square_of}
use Rattle.plane.proofs.Products.{bits, back}
use Rattle.plane.specs.declared.Point.{Point}
use Rattle.plane.specs.declared.Vector.{Vector}
use Rattle.turning.specs.Bounds.{Radius}
use Rattle.contacts.specs.Contacts.{centre_of, line_of, delta_of, trend_of, larger_of, broken_of, kind_of}
use Rattle.contacts.specs.Bounds.{Inside}
use Rattle.turning.proofs.Limits.{centre_near}
use Rattle.contacts.proofs.Contacts.{centre_is, line_is, delta_most}
use Rattle.contacts.specs.declared.Vertex.{Vertex}
use Rattle.contacts.specs.declared.Trend.{Trend}
use Rattle.contacts.specs.declared.Trend.TheVariants.{Decreasing, Constant, Increasing}
use Rattle.contacts.specs.declared.Kind.TheVariants.{Broken, Drawn, Thin}

-- ---- vertices

pub centre_back : (v : Vertex) → SFits w64 v.x → SFits w64 v.y → record { x = bits v.x; y = bits v.y } ≡ centre_of v
unfolding centre_of
centre_back v h k = rw (back h, back k)

pub place_near : (v : Vertex) {o : Point} → o ≡ centre_of v → Inside v → Near o
place_near v e h = rw e (centre_near (centre_is h))

pub line_short : (a b : Vertex) {v : Vector} → v ≡ line_of a b → Inside a → Inside b → Short v
line_short a b e h k =
    let l = line_is h k in
    rw e (record { x = record { size = omega (arith, l.x.size) }; y = record { size = omega (arith, l.y.size) } })

pub radius_fits : {r : ℤ} → Radius r → SFits w64 r
radius_fits h = sfits (omega (arith, h.high))

module _ {a b : Vertex} (h : Inside a) (k : Inside b) where
  pub delta_fits : SFits w64 (delta_of a b)
  delta_fits = sfits (omega (arith, delta_most h k))

  pub less_fits : SFits w64 (bits a.radius -ℤ bits b.radius)
  unfolding delta_of
  less_fits = rw (back (radius_fits h.radius), back (radius_fits k.radius)) delta_fits

  pub delta_back : bits (bits a.radius -ℤ bits b.radius) ≡ delta_of a b
  unfolding delta_of
  delta_back = rw (back (radius_fits h.radius), back (radius_fits k.radius)) (back delta_fits)

  -- the size of delta, and its square
  pub delta_size : {d : ℤ} {m : ℕ} → d ≡ delta_of a b → m ≡ nat_abs (bits d) → m ≡ nat_abs (delta_of a b)
  delta_size e f = f ∙ ap (λ (z : ℤ). nat_abs (bits z)) e ∙ ap nat_abs (back delta_fits)

  pub delta_square : {m : ℕ} → m ≡ nat_abs (delta_of a b) → m * m ≤ 2 ^ 56
  delta_square e = rw e (mul-le-mul {n₂ = 2 ^ 28} {m₂ = 2 ^ 28} (delta_most h k) (delta_most h k))

-- ---- the larger radius

max_larger : (x y : ℤ) → int_max x y ≡ cond (lt_z x y) y x
max_larger (pos m) (pos n) = grind (arith, nat_tests)
max_larger (pos m) (negsuc n) = refl
max_larger (negsuc m) (pos n) = refl
max_larger (negsuc m) (negsuc n) = grind (arith, nat_tests)

pub larger_is : (a b : Vertex) {z : ℤ} → SFits w64 a.radius → SFits w64 b.radius → SFits w64 z → z ≡ int_max (bits a.radius) (bits b.radius) → bits z ≡ larger_of a b
unfolding larger_of
larger_is a b h k l e = back l ∙ (rw (back h, back k) at e) ∙ go (lt_z a.radius b.radius) refl
  where
    go : (x : Bool) → lt_z a.radius b.radius ≡ x → int_max a.radius b.radius ≡ larger_of a b
    go true f = max_larger a.radius b.radius ∙ rw (f, larger_of)
    go false f = max_larger a.radius b.radius ∙ rw (f, larger_of)

-- ---- the kinds of step

module _ (a b : Vertex) {m n : ℕ} (e : m ≡ nat_abs (delta_of a b)) (f : n ≡ square_of (line_of a b)) where
  pub broken_is : n ≤ m * m → broken_of a b ≡ true
  unfolding broken_of
  broken_is h = rw (← e, ← f) (le-leb n (m * m) h)

  pub not_broken_is : m * m < n → broken_of a b ≡ false
  unfolding broken_of
  not_broken_is h = rw (← e, ← f) (lt-leb n (m * m) h)

pub kind_broken : (a b : Vertex) → broken_of a b ≡ true → Broken ≡ kind_of a b
unfolding kind_of
kind_broken a b e = rw (e, kind_of)

-- a drawn step is not broken
pub drawn_whole : (a b : Vertex) → kind_of a b ≡ Drawn → broken_of a b ≡ false
drawn_whole a b e = go (broken_of a b) refl
  where
    go : (x : Bool) → broken_of a b ≡ x → x ≡ false
    go true f = let g = kind_broken a b f in let z : ◌≡◌ {A = ℕ} 0 1 = cc in absurd (omega arith)
    go false f = refl

-- nor is a thin one
pub thin_whole : (a b : Vertex) → kind_of a b ≡ Thin → broken_of a b ≡ false
thin_whole a b e = go (broken_of a b) refl
  where
    go : (x : Bool) → broken_of a b ≡ x → x ≡ false
    go true f = let g = kind_broken a b f in let z : ◌≡◌ {A = ℕ} 0 1 = cc in absurd (omega arith)
    go false f = refl

module _ (a b : Vertex) {z : ℤ} (e : broken_of a b ≡ false) (f : z ≡ larger_of a b) (h : SFits w64 z) where
  pub kind_drawn : le_z (pos 2) (bits z) ≡ true → Drawn ≡ kind_of a b
  unfolding kind_of
  kind_drawn t = let g : le_z (pos 2) (larger_of a b) ≡ true = rw (back h, f) at t in rw (e, g, kind_of)

  pub kind_thin : le_z (pos 2) (bits z) ≡ false → Thin ≡ kind_of a b
  unfolding kind_of
  kind_thin t = let g : le_z (pos 2) (larger_of a b) ≡ false = rw (back h, f) at t in rw (e, g, kind_of)

-- ---- the trend

abbrev pub trend_in : Ordering → Trend
trend_in Less = Increasing
trend_in Equal = Constant
trend_in Greater = Decreasing

trend_orders : (x y : ℤ) → trend_in (int_cmp x y) ≡ cond (lt_z y x) Decreasing (cond (lt_z x y) Increasing Constant)
trend_orders (pos m) (pos n) = grind (arith, nat_tests)
trend_orders (pos m) (negsuc n) = refl
trend_orders (negsuc m) (pos n) = refl
trend_orders (negsuc m) (negsuc n) = grind (arith, nat_tests)

pub trend_is : (a b : Vertex) {o : Ordering} → o ≡ int_cmp a.radius b.radius → trend_in o ≡ trend_of a b
unfolding trend_of
trend_is a b e = ap trend_in e ∙ trend_orders a.radius b.radius ∙ go (lt_z b.radius a.radius) (lt_z a.radius b.radius) refl refl
  where
    go : (x y : Bool) → lt_z b.radius a.radius ≡ x → lt_z a.radius b.radius ≡ y
        → cond (lt_z b.radius a.radius) Decreasing (cond (lt_z a.radius b.radius) Increasing Constant) ≡ trend_of a b
    go true y f g = rw (f, trend_of)
    go false true f g = rw (f, g, trend_of)
    go false false f g = rw (f, g, trend_of)
