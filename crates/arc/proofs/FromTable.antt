-- A circle at grade 8 as two half turns, and from the radius 512 on as 806 edges. Assumes nothing.
use mathlib.Core.Path.{◌≡◌, refl, sym, ap, ◌∙◌}
use mathlib.Core.Bool.{true, false}
use mathlib.Core.List.{List, ◌++◌}
use Prim.Native.Nat.{◌≤◌}
use native.Mathlib.Omega.{arith}
use lib.IntN.{ℤ, pos, nat_abs}
use lib.ListN.{length, length-append}
use lib.Signed.{le_z}
use Rattle.whole.proofs.Signed.{abs_is}
use Rattle.whole.proofs.Order.{le_true}
use Rattle.runs.specs.Runs.{spread}
use Rattle.runs.proofs.Laws.{spread-append}
use Rattle.plane.specs.Vectors.{Near}
use Rattle.plane.specs.Directions.{step_of}
use Rattle.plane.proofs.Products.{bits}
use Rattle.plane.proofs.Directions.{step_unit}
use Rattle.plane.specs.declared.Point.{Point}
use Rattle.plane.specs.declared.Vector.{Vector}
use Rattle.turning.specs.Edges.{edge_numbers}
use Rattle.turning.specs.Arcs.{turns_of, east_of, west_of, circle_of}
use Rattle.turning.specs.Bounds.{Centre, Radius, Turns}
use Rattle.turning.specs.declared.Edge.{Edge}
use Rattle.turning.specs.declared.Turning.{Turning}
use Rattle.turning.proofs.Limits.{radius_back, radius_told_lem, turns_within}
use Rattle.turning.proofs.Rays.{about_near, east_told, west_told, eastward_told, westward_told}
use Rattle.turning.proofs.Cases.{swept_turns, circle_some}
use Rattle.leaps.specs.Bows.{Bends}
use Rattle.half_turn.specs.Pairs.{axis_of}
use Rattle.half_turn.proofs.Halves.{axis_unit, half_bends, half_size}

-- a radius that was passed on
pub circle_bits : (t : Vector) (c : Point) {r : ℤ} → Radius r → circle_of t c r ≡ circle_of t c (bits r)
circle_bits t c h = ap (circle_of t c) (sym (radius_back h))

large : (s : ℤ) → le_z (pos 512) s ≡ true → 512 ≤ nat_abs s
large s e = omega (arith, le_true (pos 512) s e, abs_is s)

east_level : (c : Point) (s : ℤ) → (east_of c s).y ≡ c.y
unfolding east_of
east_level c s = refl

west_level : (c : Point) (s : ℤ) → (west_of c s).y ≡ c.y
unfolding west_of
west_level c s = refl

-- e and w are the circle's ends, as the code has them
module _ (t : Vector) (c : Point) (r : ℤ) {e w : Point} (h : t ≡ step_of 8) (k : Centre c) (l : Radius r) (m : le_z (bits r) (pos 1) ≡ false) (i : e ≡ east_of c (bits r)) (j : w ≡ west_of c (bits r)) where
  abbrev pub first_half : Turning
  first_half = record { step = t; centre = c; radius = bits r; to = w; toward = axis_of true }

  abbrev pub second_half : Turning
  second_half = record { step = t; centre = c; radius = bits r; to = e; toward = axis_of false }

  pub fine_halves : circle_of t c r ≡ turns_of 1536 first_half (axis_of false) e ++ turns_of 1536 second_half (axis_of true) w
  unfolding axis_of
  fine_halves =
      let first = swept_turns t c (bits r) e w refl refl refl (eastward_told c (bits r) m i) (westward_told c (bits r) m j) in
      let second = swept_turns t c (bits r) w e refl refl refl (westward_told c (bits r) m j) (eastward_told c (bits r) m i) in
      circle_some t c (radius_back l) m i j ∙ (λ x. first x ++ second x)

  pub east_near : Near e
  east_near = about_near (east_told c (radius_told_lem l) i) k

  pub west_near : Near w
  west_near = about_near (west_told c (radius_told_lem l) j) k

  pub first_turns : Turns first_half
  first_turns = turns_within (step_unit 8 h) k l west_near (axis_unit true)

  pub second_turns : Turns second_half
  second_turns = turns_within (step_unit 8 h) k l east_near (axis_unit false)

  module _ (s : le_z (pos 512) (bits r) ≡ true) where
    east_on : e.y ≡ c.y
    east_on = ap (λ (p : Point). p.y) i ∙ east_level c (bits r)

    west_on : w.y ≡ c.y
    west_on = ap (λ (p : Point). p.y) j ∙ west_level c (bits r)

    pub first_bends : Bends first_half (axis_of false) e 402
    first_bends = half_bends first_half false first_turns h refl e (large (bits r) s) east_on west_on

    pub second_bends : Bends second_half (axis_of true) w 402
    second_bends = half_bends second_half true second_turns h refl w (large (bits r) s) west_on east_on

    pub fine_size : length (spread edge_numbers (circle_of t c r)) ≡ 3224
    fine_size =
        let es = turns_of 1536 first_half (axis_of false) e in
        let fs = turns_of 1536 second_half (axis_of true) w in
        omega (
          arith,
          ap (λ (gs : List Edge). length (spread edge_numbers gs)) fine_halves,
          ap length (spread-append edge_numbers es fs),
          length-append (spread edge_numbers es) (spread edge_numbers fs),
          half_size first_half false first_turns h refl e (large (bits r) s) east_on west_on,
          half_size second_half true second_turns h refl w (large (bits r) s) west_on east_on,
        )
