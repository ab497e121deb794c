-- Edges that lead from one point to another: an edge, an arc, a circle. Assumes nothing.
use mathlib.Core.Path.{◌≡◌, refl, sym, ◌∙◌}
use mathlib.Core.Bool.{Bool, true, false, not, ◌||◌, true≢false}
use mathlib.Core.List.{List, [], ◌∷◌, ◌++◌}
use Prim.Native.Nat.{ℕ, zero, suc, ◌+◌}
use native.Mathlib.Omega.{arith}
use lib.IntN.{ℤ, pos}
use lib.Signed.{le_z}
use Rattle.plane.specs.Vectors.{same_point, from_to}
use Rattle.plane.specs.Directions.{direction_of, rotated_of, scaled_of}
use Rattle.plane.specs.declared.Point.{Point}
use Rattle.plane.specs.declared.Vector.{Vector}
use Rattle.turning.specs.Edges.{edge_of}
use Rattle.turning.specs.Arcs.{sweep_of, empty_of, full_of, ring_of, stops_of, turns_of, swept_of, east_of, west_of, circle_of, arc_of}
use Rattle.turning.specs.declared.Edge.{Edge}
use Rattle.turning.specs.declared.Sweep.{Sweep}
use Rattle.turning.specs.declared.Sweep.TheVariants.{Minor, Major}
use Rattle.turning.specs.declared.Turning.{Turning}
use Rattle.turning.proofs.Rays.{same_point_lem}
use Rattle.closing.specs.Closing.{here_of, starts_at, ends_at, Balanced, one_at_centre}

-- edges that lead from p to q: closed by an edge from q to p they balance
pub record Carries (p q : Point) (es : List Edge) : Type 0 where
  pub carry : (x : Point) → starts_at x es + here_of x q ≡ ends_at x es + here_of x p

pub starts_append : (x : Point) (es fs : List Edge) → starts_at x (es ++ fs) ≡ starts_at x es + starts_at x fs
unfolding starts_at
starts_append x [] fs = omega arith
starts_append x (e ∷ es) fs = omega (arith, starts_append x es fs)

pub ends-append : (x : Point) (es fs : List Edge) → ends_at x (es ++ fs) ≡ ends_at x es + ends_at x fs
unfolding ends_at
ends-append x [] fs = omega arith
ends-append x (e ∷ es) fs = omega (arith, ends-append x es fs)

pub carries_none : (p : Point) → Carries p p []
unfolding starts_at ends_at
carries_none p = record { carry = λ x. refl }

pub carries_then : {p q r : Point} {es fs : List Edge} → Carries p q es → Carries q r fs → Carries p r (es ++ fs)
carries_then {p} {q} {r} {es} {fs} h k = record { carry = λ x. omega (arith, starts_append x es fs, ends-append x es fs, h.carry x, k.carry x) }

pub balanced_none : Balanced []
unfolding starts_at ends_at
balanced_none = record { balance = λ x. refl }

pub balanced : {p : Point} {es : List Edge} → Carries p p es → Balanced es
balanced h = record { balance = λ x. omega (arith, h.carry x) }

-- ---- an edge, arcs and circles

pub edge_carries : (p q : Point) → Carries p q (edge_of p q)
unfolding edge_of starts_at ends_at
edge_carries p q = go (same_point p q) refl
  where
    go : (x : Bool) → same_point p q ≡ x → Carries p q (elim x [ true ↦ [] | false ↦ record { a = p; b = q } ∷ [] ])
    go true e = rw (same_point_lem p q e) (carries_none q)
    go false e = record { carry = λ x. omega arith }

pub turns_carries : (k : ℕ) (r : Turning) (d : Vector) (p : Point) → Carries p r.to (turns_of k r d p)
unfolding turns_of
turns_carries zero r d p = edge_carries p r.to
turns_carries (suc k) r d p =
    go (stops_of d (rotated_of r.step d) r.toward) (turns_carries k r (rotated_of r.step d) (scaled_of r.centre r.radius (rotated_of r.step d)))
  where
    go : (x : Bool) → Carries (scaled_of r.centre r.radius (rotated_of r.step d)) r.to (turns_of k r (rotated_of r.step d) (scaled_of r.centre r.radius (rotated_of r.step d)))
        → Carries p r.to (elim x [ true ↦ edge_of p r.to | false ↦ edge_of p (scaled_of r.centre r.radius (rotated_of r.step d)) ++ turns_of k r (rotated_of r.step d) (scaled_of r.centre r.radius (rotated_of r.step d)) ])
    go true h = edge_carries p r.to
    go false h = carries_then (edge_carries p (scaled_of r.centre r.radius (rotated_of r.step d))) h

pub swept_carries : (t : Vector) (c : Point) (r : ℤ) (p q : Point) → Carries p q (swept_of t c r p q)
unfolding swept_of
swept_carries t c r p q = turns_carries 1536 (record { step = t; centre = c; radius = r; to = q; toward = direction_of (from_to c q) }) (direction_of (from_to c p)) p

pub circle_carries : (t : Vector) (c : Point) (r : ℤ) → Carries (east_of c r) (east_of c r) (circle_of t c r)
unfolding circle_of
circle_carries t c r = go (le_z r (pos 1))
  where
    go : (x : Bool) → Carries (east_of c r) (east_of c r) (elim x [ true ↦ [] | false ↦ swept_of t c r (east_of c r) (west_of c r) ++ swept_of t c r (west_of c r) (east_of c r) ])
    go true = carries_none (east_of c r)
    go false = carries_then (swept_carries t c r (east_of c r) (west_of c r)) (swept_carries t c r (west_of c r) (east_of c r))

-- a closed run before a run
pub closed_then : {p q : Point} {es fs : List Edge} → Balanced es → Carries p q fs → Carries p q (es ++ fs)
closed_then {p} {q} {es} {fs} h k = record { carry = λ x. omega (arith, starts_append x es fs, ends-append x es fs, h.balance x, k.carry x) }

-- an arc without edges has one point as both ends, unless one alone of them is the centre
ends_meet : (c p q : Point) → one_at_centre c p q ≡ false → same_point p c ≡ true → p ≡ q
unfolding one_at_centre
ends_meet c p q h e = go (same_point q c) refl (rw (e, one_at_centre) at h)
  where
    go : (x : Bool) → same_point q c ≡ x → not x ≡ false → p ≡ q
    go true f k = same_point_lem p c e ∙ sym (same_point_lem q c f)
    go false f k = absurd (true≢false k)

ends_meet_back : (c p q : Point) → one_at_centre c p q ≡ false → same_point q c ≡ true → p ≡ q
unfolding one_at_centre
ends_meet_back c p q h e = go (same_point p c) refl
  where
    go : (x : Bool) → same_point p c ≡ x → p ≡ q
    go true f = same_point_lem p c f ∙ sym (same_point_lem q c e)
    go false f = absurd (true≢false (sym e ∙ (rw (f, one_at_centre) at h)))

empty_meets : (w : Sweep) (c p q : Point) → one_at_centre c p q ≡ false → empty_of w c p q ≡ true → p ≡ q
unfolding empty_of
empty_meets Minor c p q h e = go (same_point p q) (same_point p c) refl refl e
  where
    go : (x y : Bool) → same_point p q ≡ x → same_point p c ≡ y → (x || y || same_point q c) ≡ true → p ≡ q
    go true y f g k = same_point_lem p q f
    go false true f g k = ends_meet c p q h g
    go false false f g k = ends_meet_back c p q h k
empty_meets Major c p q h e = go (same_point p c) refl e
  where
    go : (y : Bool) → same_point p c ≡ y → (y || same_point q c) ≡ true → p ≡ q
    go true g k = ends_meet c p q h g
    go false g k = ends_meet_back c p q h k

pub arc_carries : (t : Vector) (c : Point) (r : ℤ) (p q : Point) (choice : Sweep) → one_at_centre c p q ≡ false → Carries p q (arc_of t c r p q choice)
unfolding arc_of
arc_carries t c r p q choice h = go (empty_of w c p q) (full_of w (direction_of (from_to c p)) (direction_of (from_to c q))) refl
  where
    w : Sweep
    w = sweep_of (from_to c p) (from_to c q) choice

    go : (x y : Bool) → empty_of w c p q ≡ x
        → Carries p q (elim x [ true ↦ [] | false ↦ elim y [ true ↦ circle_of t c (ring_of (from_to c p)) ++ edge_of p q | false ↦ swept_of t c r p q ] ])
    go true y e = rw (empty_meets w c p q h e) (carries_none q)
    go false true e = closed_then (balanced (circle_carries t c (ring_of (from_to c p)))) (edge_carries p q)
    go false false e = swept_carries t c r p q
