-- The table's rule at each pair, from one test over all of it; and what the half turn's rotations come to, computed. Assumes nothing.
use mathlib.Core.Path.{◌≡◌, refl, sym, ap, ◌∙◌}
use mathlib.Core.Bool.{Bool, true, false, not, true≢false}
use mathlib.Core.List.{List, [], ◌∷◌}
use Prim.Native.Nat.{ℕ, zero, suc, ◌+◌, ◌*◌, ◌^◌, ◌≤◌, ◌<◌}
use native.Mathlib.Numerals.{add-one}
use native.Mathlib.Omega.{arith}
use lib.Dec.{lit≤}
use lib.IntN.{ℤ, pos, nat_abs}
use lib.ListN.{length}
use Rattle.number.specs.Root.{corrected_of, root_in, root_of}
use Rattle.plane.specs.Vectors.{cross_of, dot_of, square_of}
use Rattle.plane.specs.Directions.{part_of, component_of, direction_of, step_of, rotated_of}
use Rattle.plane.specs.declared.Vector.{Vector}
use Rattle.turning.specs.Arcs.{near_of, stops_of}
use Rattle.turning.proofs.Rays.{same_is, both_true}
use Rattle.turning.proofs.Mirrored.{minus, rotated_minus}
use Rattle.leaps.specs.Leaps.{turned_of, Goes}
use Rattle.leaps.proofs.Leaping.{many_add}
use Rattle.half_turn.specs.Pairs.{axis_of, vector_of, follows_of, pair_of, Tabled}

-- ---- the table's rule

first_pair : (t d : Vector) (p : ℤ × ℤ) (ps : List (ℤ × ℤ)) → follows_of t d (p ∷ ps) ≡ true → (vector_of p ≡ rotated_of t d) × (follows_of t (vector_of p) ps ≡ true)
unfolding follows_of
first_pair t d p ps e =
    let h = both_true _ _ e in
    let k = both_true _ _ h.1 in
    (λ i. record { x = same_is p.0 (rotated_of t d).x h.0 i; y = same_is p.1 (rotated_of t d).y k.0 i }, k.1)

follows_at : (t d : Vector) (ps : List (ℤ × ℤ)) → follows_of t d ps ≡ true → (i : ℕ) → i < length ps → pair_of ps i ≡ turned_of (suc i) t d
unfolding turned_of follows_of
follows_at t d [] e i h = absurd (omega (arith, h))
follows_at t d (p ∷ ps) e zero h = (first_pair t d p ps e).0
follows_at t d (p ∷ ps) e (suc i) h =
    let f = first_pair t d p ps e in
    follows_at t (vector_of p) ps f.1 i (omega (arith, h)) ∙ ap (turned_of (suc i) t) f.0

-- the step of grade 8 in numbers
abbrev pub eighth : Vector
eighth = record { x = pos 1073709056; y = pos 8388480 }

pub step_eight : eighth ≡ step_of 8
unfolding corrected_of root_in root_of square_of part_of component_of direction_of step_of
step_eight = refl

pub tabled : (ps : List (ℤ × ℤ)) → length ps ≡ 402 → follows_of eighth (axis_of false) ps ≡ true → Tabled ps
tabled ps h e = record {
  long = h;
  rule = λ i l. follows_at eighth (axis_of false) ps e i (omega (arith, h, l)) ∙ (λ j. turned_of (sym (add-one i) j) (step_eight j) (axis_of false));
}

-- ---- by half a turn

pub many_minus : (n : ℕ) (t d : Vector) → turned_of n t (minus d) ≡ minus (turned_of n t d)
unfolding turned_of
many_minus zero t d = refl
many_minus (suc n) t d = ap (turned_of n t) (rotated_minus t d) ∙ many_minus n t (rotated_of t d)

-- ---- one rotation more

pub many_next : (n : ℕ) (t d : Vector) → turned_of (n + 1) t d ≡ rotated_of t (turned_of n t d)
unfolding turned_of
many_next n t d = many_add n 1 t d

-- an arc that does not stop before any of n rotations does not stop before the one at i
pub goes_at : (n : ℕ) (t e d : Vector) → Goes n t e d → (i : ℕ) → i < n → stops_of (turned_of i t d) (rotated_of t (turned_of i t d)) e ≡ false
unfolding Goes turned_of
goes_at zero t e d g i h = absurd (omega (arith, h))
goes_at (suc n) t e d g zero h = g.0
goes_at (suc n) t e d g (suc i) h = goes_at n t e (rotated_of t d) g.1 i (omega (arith, h))

-- ---- from one end of the axis to the other, computed

unfoldable goes_of : ℕ → Vector → Vector → Vector → Bool
goes_of zero t e d = true
goes_of (suc n) t e d =
    let next = rotated_of t d in
    elim (stops_of d next e) [ true ↦ false | false ↦ goes_of n t e next ]

goes_told : (n : ℕ) (t e d : Vector) → goes_of n t e d ≡ true → Goes n t e d
unfolding goes_of Goes
goes_told zero t e d h = tt
goes_told (suc n) t e d h = go (λ k. goes_told n t e (rotated_of t d) k) (stops_of d (rotated_of t d) e) refl
  where
    go : (goes_of n t e (rotated_of t d) ≡ true → Goes n t e (rotated_of t d)) → (x : Bool) → stops_of d (rotated_of t d) e ≡ x → Goes (suc n) t e d
    go f true k = absurd (true≢false (sym h ∙ rw (k, goes_of)))
    go f false k = (k, f (sym (rw (k, goes_of)) ∙ h))

goes_eighth : (back : Bool) → goes_of 402 eighth (axis_of (not back)) (axis_of back) ≡ true
unfolding axis_of goes_of stops_of near_of cross_of dot_of rotated_of
goes_eighth false = refl
goes_eighth true = refl

pub half_goes : (back : Bool) → Goes 402 (step_of 8) (axis_of (not back)) (axis_of back)
half_goes back = rw (← step_eight) (goes_told 402 eighth (axis_of (not back)) (axis_of back) (goes_eighth back))

-- what the last of them comes to: the arc stops there, its direction is long, and about a thousandth above the axis
pub record LastPair (t : Vector) (back : Bool) (d : Vector) : Type 0 where
  pub stops : stops_of d (rotated_of t d) (axis_of (not back)) ≡ true
  pub long : 7 * 2 ^ 27 * (7 * 2 ^ 27) ≤ square_of d
  pub height : nat_abs d.y ≡ 1056154

last_eighth : (back : Bool) → LastPair eighth back (turned_of 402 eighth (axis_of back))
unfolding axis_of turned_of stops_of near_of cross_of dot_of rotated_of square_of
last_eighth false = record { stops = refl; long = lit≤ tt; height = refl }
last_eighth true = record { stops = refl; long = lit≤ tt; height = refl }

pub half_last : (back : Bool) → LastPair (step_of 8) back (turned_of 402 (step_of 8) (axis_of back))
half_last back = rw (← step_eight) (last_eighth back)

-- and the first of them
first-eighth : (back : Bool) → nat_abs (rotated_of eighth (axis_of back)).y ≡ 8388480
unfolding axis_of rotated_of
first-eighth false = refl
first-eighth true = refl

pub half_first : (back : Bool) → nat_abs (rotated_of (step_of 8) (axis_of back)).y ≡ 8388480
half_first back = rw (← step_eight) (first-eighth back)
