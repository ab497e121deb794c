-- How many own numbers hold a step, from the most edges of a step at each grade. Assumes nothing.
use mathlib.Core.Path.{◌≡◌, refl}
use mathlib.Core.Bool.{Bool, true, false}
use mathlib.Core.List.{List}
use Prim.Native.Nat.{ℕ, zero, suc, ◌*◌, ◌≤◌}
use native.Mathlib.Nat.{le_trans}
use native.Mathlib.Omega.{arith}
use borrow.Author.Tests.{ltb-false, le-ltb}
use lib.Dec.{ltb, lit≤}
use Rattle.number.specs.Root.{corrected_of, root_in, root_of}
use Rattle.plane.specs.Vectors.{square_of}
use Rattle.plane.specs.Directions.{part_of, component_of, direction_of, step_of}
use Rattle.plane.specs.declared.Vector.{Vector}
use Rattle.paths.specs.Paths.{Within}
use Rattle.contacts.specs.declared.Vertex.{Vertex}
use Rattle.quarter.specs.Rotations.{excess_of, quarter_of, rotations_of}
use Rattle.quarter.specs.Most.{arc_most, step_most}
use Rattle.quarter.proofs.PathEdges.{finish_by_grade, step_by_grade, any_grade}
use Rattle.own_room.specs.OwnRoom.{step_numbers, StepRoom, StepsHeld}

-- ---- four numbers an edge

few_grade : (g : ℕ) → 1 ≤ g → g ≤ 4 → step_most g ≤ 148
unfolding corrected_of root_in root_of square_of part_of component_of direction_of step_of excess_of quarter_of rotations_of arc_most step_most
few_grade zero h u = absurd (omega (arith, h))
few_grade (suc zero) h u = lit≤ tt
few_grade (suc (suc zero)) h u = lit≤ tt
few_grade (suc (suc (suc zero))) h u = lit≤ tt
few_grade (suc (suc (suc (suc zero)))) h u = lit≤ tt
few_grade (suc (suc (suc (suc (suc g))))) h u = absurd (omega (arith, u))

arc_less : (g : ℕ) → arc_most g ≤ step_most g
unfolding step_most
arc_less g = omega arith

held : (g k : ℕ) → 1 ≤ g → g ≤ 8 → 4 * step_most g ≤ k → StepRoom (step_of g) k
held g k h u l = record {
  step = λ w b. omega (arith, (step_by_grade g w b h u).most, l);
  end = λ w. omega (arith, (finish_by_grade g w.chain w.closing h u).most, arc_less g, l);
}

pub steps_held : StepsHeld
unfolding step_numbers
steps_held g k h u = go (ltb 4 g) refl
  where
    go : (x : Bool) → ltb 4 g ≡ x → elim x as (λ _. ℕ) [ true ↦ 8272 | false ↦ 592 ] ≤ k → StepRoom (step_of g) k
    go true e l = held g k h u (omega (arith, (any_grade g h u).1, l))
    go false e l = held g k h u (omega (arith, few_grade g h (ltb-false 4 g e), l))

-- ---- as the code has it: t is the step of a path within the limits, and own numbers come back from a call as many as before

pub step_room : {g k : ℕ} {t : Vector} {vs : List Vertex} → t ≡ step_of g → Within g vs → step_numbers g ≤ k → StepRoom t k
step_room {g} {k} e h l = rw e (steps_held g k h.low h.high l)

pub room_more : {t : Vector} {k m : ℕ} → StepRoom t k → k ≤ m → StepRoom t m
room_more h l = record { step = λ w b. le_trans (h.step w b) l; end = λ w. le_trans (h.end w) l }

-- ---- how many numbers a caller has

pub numbers_few : {g k : ℕ} → g ≤ 4 → 592 ≤ k → step_numbers g ≤ k
unfolding step_numbers
numbers_few {g} h l = rw (le-ltb 4 g h, step_numbers) l

pub numbers_any : (g : ℕ) {k : ℕ} → 8272 ≤ k → step_numbers g ≤ k
unfolding step_numbers
numbers_any g {k} l = go (ltb 4 g)
  where
    go : (x : Bool) → elim x as (λ _. ℕ) [ true ↦ 8272 | false ↦ 592 ] ≤ k
    go true = l
    go false = omega (arith, l)
