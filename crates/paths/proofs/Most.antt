-- How many edges each rule can give by any step: no count of a path within the limits comes near 2^32. Assumes nothing.
use Prim.Native.Nat.{◌+◌, ◌*◌}
use native.Mathlib.Omega.{arith}
use lib.IntN.{ℤ}
use lib.ListN.{length}
use Rattle.plane.specs.Directions.{step_of}
use Rattle.plane.specs.declared.Point.{Point}
use Rattle.plane.specs.declared.Vector.{Vector}
use Rattle.turning.specs.Arcs.{circle_of}
use Rattle.turning.specs.Bounds.{Most}
use Rattle.turning.proofs.Most.{most_up, circle_most, arc_most_lem}
use Rattle.joins.specs.Joins.{start_cap, end_cap, join_of}
use Rattle.variable_stroke.specs.Chains.{finish_of, emitted_of}
use Rattle.paths.specs.Paths.{bodies_of, edges_of, EdgesMost}
use Rattle.contacts.specs.declared.Vertex.{Vertex}
use Rattle.contacts.specs.declared.Section.{Section}
use Rattle.joins.specs.declared.Cap.{Cap}
use Rattle.variable_stroke.specs.declared.Chain.{Chain}
use Rattle.variable_stroke.specs.declared.Walk.{Walk}
use Rattle.paths.proofs.MostBy.{start_by, end_by, join_by, finish_by, emitted_by, edges_by}

circles : (t : Vector) (c : Point) (r : ℤ) → Most 3075 (circle_of t c r)
circles t c r = most_up (omega arith) (circle_most t c r)

pub start_most : (t : Vector) (s : Section) (k : Cap) → Most 3075 (start_cap t s k)
start_most t = start_by t 3075 (omega arith) (circles t) (arc_most_lem t)

pub end_most : (t : Vector) (s : Section) (k : Cap) → Most 3075 (end_cap t s k)
end_most t = end_by t 3075 (omega arith) (circles t) (arc_most_lem t)

pub join_most : (t : Vector) (m n : Section) → Most 6150 (join_of t m n)
join_most t = join_by t 3075 (omega arith) (circles t) (arc_most_lem t)

pub finish_most : (t : Vector) (c : Chain) (k : Cap) → Most 3075 (finish_of t c k)
finish_most t = finish_by t 3075 (omega arith) (circles t) (arc_most_lem t)

pub emitted_most : (t : Vector) (w : Walk) (b : Vertex) → Most 9227 (emitted_of t w b)
emitted_most t w b = most_up (omega arith) (emitted_by t 3075 (omega arith) (circles t) (arc_most_lem t) w b)

pub edges_most : EdgesMost
unfolding edges_of bodies_of
edges_most g vs = (most_up {n = 9227 * length vs + 3075} (omega arith) (edges_by (step_of g) 3075 (omega arith) (circles (step_of g)) (arc_most_lem (step_of g)) vs)).most
