-- How many edges a step and a path can have, by grade: what the rules make of the most of an arc. Assumes nothing.
use mathlib.Core.Path.{refl}
use Prim.Native.Nat.{ℕ, zero, suc, ◌≤◌}
use native.Mathlib.Omega.{arith}
use lib.Dec.{lit≤}
use Rattle.number.specs.Root.{corrected_of, root_in, root_of}
use Rattle.plane.specs.Vectors.{square_of}
use Rattle.plane.specs.Directions.{part_of, component_of, direction_of, step_of}
use Rattle.paths.specs.Paths.{bodies_of, edges_of}
use Rattle.paths.proofs.MostBy.{finish_by, emitted_by, edges_by}
use Rattle.quarter.specs.Rotations.{excess_of, quarter_of, rotations_of}
use Rattle.quarter.specs.Most.{arc_most, step_most, path_most, most_of, StepMost, FinishMost, PathMost, ByGrade, AnyGrade}
use Rattle.quarter.proofs.ArcEdges.{circle_by_grade, arc_by_grade}

arc_some : (g : ℕ) → 1 ≤ arc_most g
unfolding arc_most
arc_some g = omega arith

pub finish_by_grade : FinishMost
finish_by_grade g c k h u = finish_by (step_of g) (arc_most g) (arc_some g) (λ o r. circle_by_grade g o r h u) (λ o r p q choice. arc_by_grade g o r p q choice h u) c k

pub step_by_grade : StepMost
unfolding step_most
step_by_grade g w b h u = emitted_by (step_of g) (arc_most g) (arc_some g) (λ o r. circle_by_grade g o r h u) (λ o r p q choice. arc_by_grade g o r p q choice h u) w b

pub path_by_grade : PathMost
unfolding edges_of bodies_of path_most step_most
path_by_grade g vs h u = (edges_by (step_of g) (arc_most g) (arc_some g) (λ o r. circle_by_grade g o r h u) (λ o r p q choice. arc_by_grade g o r p q choice h u) vs).most

-- ---- the eight grades

pub by_grade : ByGrade
unfolding corrected_of root_in root_of square_of part_of component_of direction_of step_of excess_of quarter_of rotations_of arc_most step_most most_of
by_grade = refl

pub any_grade : AnyGrade
unfolding corrected_of root_in root_of square_of part_of component_of direction_of step_of excess_of quarter_of rotations_of arc_most step_most
any_grade zero h u = absurd (omega (arith, h))
any_grade (suc zero) h u = (lit≤ tt, lit≤ tt)
any_grade (suc (suc zero)) h u = (lit≤ tt, lit≤ tt)
any_grade (suc (suc (suc zero))) h u = (lit≤ tt, lit≤ tt)
any_grade (suc (suc (suc (suc zero)))) h u = (lit≤ tt, lit≤ tt)
any_grade (suc (suc (suc (suc (suc zero))))) h u = (lit≤ tt, lit≤ tt)
any_grade (suc (suc (suc (suc (suc (suc zero)))))) h u = (lit≤ tt, lit≤ tt)
any_grade (suc (suc (suc (suc (suc (suc (suc zero))))))) h u = (lit≤ tt, lit≤ tt)
any_grade (suc (suc (suc (suc (suc (suc (suc (suc zero)))))))) h u = (lit≤ tt, lit≤ tt)
any_grade (suc (suc (suc (suc (suc (suc (suc (suc (suc g))))))))) h u = absurd (omega (arith, u))
