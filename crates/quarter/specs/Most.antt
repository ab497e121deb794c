-- Document 02, request 12: the most edges of an arc, of a step and of a path, by grade, since no arc is stopped by the count.
use Rattle.std.specs.Prelude.{◌≡◌, List, [], ◌∷◌, ℕ, ◌+◌, ◌*◌, ◌≤◌, ℤ, length}
use Rattle.plane.specs.Directions.{step_of}
use Rattle.plane.specs.declared.Point.{Point}
use Rattle.turning.specs.Arcs.{swept_of, circle_of, arc_of}
use Rattle.turning.specs.Bounds.{Most}
use Rattle.turning.specs.declared.Sweep.{Sweep}
use Rattle.contacts.specs.declared.Vertex.{Vertex}
use Rattle.joins.specs.declared.Cap.{Cap}
use Rattle.variable_stroke.specs.Chains.{finish_of, emitted_of}
use Rattle.variable_stroke.specs.declared.Chain.{Chain}
use Rattle.variable_stroke.specs.declared.Walk.{Walk}
use Rattle.paths.specs.Paths.{edges_of}
use Rattle.quarter.specs.Rotations.{rotations_of}

-- From one point to another about a centre, as a kerb's round corner goes too, there is an edge for each rotation and one more.
abbrev pub SweptMost : Type 0
SweptMost = (g : ℕ) (c : Point) (r : ℤ) (p q : Point) → 1 ≤ g → g ≤ 8 → Most (rotations_of g) (swept_of (step_of g) c r p q)

-- A circle has no more, since each of its halves goes through two quarters; in an arc one edge may follow it.
unfoldable pub arc_most : ℕ → ℕ
arc_most g = rotations_of g + 1

abbrev pub ArcMost : Type 0
ArcMost = (g : ℕ) (c : Point) (r : ℤ) (p q : Point) (choice : Sweep) → 1 ≤ g → g ≤ 8 → Most (arc_most g) (arc_of (step_of g) c r p q choice)

abbrev pub CircleMost : Type 0
CircleMost = (g : ℕ) (c : Point) (r : ℤ) → 1 ≤ g → g ≤ 8 → Most (arc_most g) (circle_of (step_of g) c r)

-- A step has its two sides and two arcs: those of a join, or the end of the chain before, whose next one starts with an edge.
unfoldable pub step_most : ℕ → ℕ
step_most g = 2 * arc_most g + 2

abbrev pub StepMost : Type 0
StepMost = (g : ℕ) (w : Walk) (b : Vertex) → 1 ≤ g → g ≤ 8 → Most (step_most g) (emitted_of (step_of g) w b)

-- The end of a chain is an arc or a circle.
abbrev pub FinishMost : Type 0
FinishMost = (g : ℕ) (c : Chain) (k : Cap) → 1 ≤ g → g ≤ 8 → Most (arc_most g) (finish_of (step_of g) c k)

-- A path of n vertices has fewer steps than that, and an end.
unfoldable pub path_most : ℕ → ℕ → ℕ
path_most g n = step_most g * n + arc_most g

abbrev pub PathMost : Type 0
PathMost = (g : ℕ) (vs : List Vertex) → 1 ≤ g → g ≤ 8 → length (edges_of g vs) ≤ path_most g (length vs)

-- The eight grades: the rotations of an arc stay below the first, an arc's and a step's edges are at most the second and the third.
unfoldable pub most_of : ℕ → List ℕ
most_of g = rotations_of g ∷ arc_most g ∷ step_most g ∷ []

abbrev pub ByGrade : Type 0
ByGrade =
    most_of 1 ∷ most_of 2 ∷ most_of 3 ∷ most_of 4 ∷ most_of 5 ∷ most_of 6 ∷ most_of 7 ∷ most_of 8 ∷ []
    ≡ (24 ∷ 25 ∷ 52 ∷ [])
    ∷ (24 ∷ 25 ∷ 52 ∷ [])
    ∷ (40 ∷ 41 ∷ 84 ∷ [])
    ∷ (72 ∷ 73 ∷ 148 ∷ [])
    ∷ (136 ∷ 137 ∷ 276 ∷ [])
    ∷ (264 ∷ 265 ∷ 532 ∷ [])
    ∷ (520 ∷ 521 ∷ 1044 ∷ [])
    ∷ (1032 ∷ 1033 ∷ 2068 ∷ [])
    ∷ []

-- At whatever grade a step has no more than 2,068 edges, and the end of a chain no more than 1,033.
abbrev pub AnyGrade : Type 0
AnyGrade = (g : ℕ) → 1 ≤ g → g ≤ 8 → (arc_most g ≤ 1033) × (step_most g ≤ 2068)
