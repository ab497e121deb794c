-- Document 01, "Chains" and "The kept outline": a path's edges, by the vertex on whose reaching they are emitted.
use Rattle.std.specs.Prelude.{◌≡◌, List, [], ◌∷◌, ◌++◌, ℕ, ◌+◌, ◌*◌, ◌≤◌, ℤ, pos, length}
use Rattle.runs.specs.Runs.{spread}
use Rattle.plane.specs.Directions.{step_of}
use Rattle.plane.specs.declared.Vector.{Vector}
use Rattle.turning.specs.Bounds.{AllReach}
use Rattle.turning.specs.declared.Edge.{Edge}
use Rattle.contacts.specs.Limits.{first_outside}
use Rattle.variable_stroke.specs.Chains.{finish_of, emitted_of, next_of, start_of}
use Rattle.contacts.specs.declared.Vertex.{Vertex}
use Rattle.variable_stroke.specs.declared.Walk.{Walk}

-- Vertices in lent numbers, three a vertex; what is left over is none.
unfoldable pub path_of : List ℤ → List Vertex
path_of [] = []
path_of (x ∷ []) = []
path_of (x ∷ y ∷ []) = []
path_of (x ∷ y ∷ r ∷ l) = record { x = x; y = y; radius = r } ∷ path_of l

unfoldable pub vertex_numbers : Vertex → List ℤ
vertex_numbers v = v.x ∷ v.y ∷ v.radius ∷ []

unfoldable pub path_numbers : List Vertex → List ℤ
path_numbers vs = spread vertex_numbers vs

-- what a vertex is taken for where there is none
abbrev pub none : Vertex
none = record { x = pos 0; y = pos 0; radius = pos 0 }

-- A body for each next vertex. At the end, finish with the closing cap: the closing body stands last.
unfoldable pub bodies_from : Vector → Walk → List Vertex → List (List Edge)
bodies_from t w [] = finish_of t w.chain w.closing ∷ []
bodies_from t w (b ∷ bs) = emitted_of t w b ∷ bodies_from t (next_of w b) bs

-- A body for each vertex, the first without edges, and the closing body.
unfoldable pub bodies_at : Vector → List Vertex → List (List Edge)
bodies_at t [] = [] ∷ []
bodies_at t (v ∷ vs) = [] ∷ bodies_from t (start_of v) vs

unfoldable pub bodies_of : ℕ → List Vertex → List (List Edge)
bodies_of g vs = bodies_at (step_of g) vs

-- bodies, one after another
unfoldable pub joined : List (List Edge) → List Edge
joined [] = []
joined (b ∷ bs) = b ++ joined bs

-- the edges of document 01's rules, in order
unfoldable pub edges_of : ℕ → List Vertex → List Edge
edges_of g vs = joined (bodies_of g vs)

-- No edge of a path within the limits ends farther than 2^29 from the origin, in either coordinate.
abbrev pub EdgesReach : Type 0
EdgesReach = (g : ℕ) (vs : List Vertex) → first_outside vs ≡ length vs → AllReach (edges_of g vs)

-- No path within the limits has more than 9,227 edges a vertex and 3,075 more.
abbrev pub EdgesMost : Type 0
EdgesMost = (g : ℕ) (vs : List Vertex) → length (edges_of g vs) ≤ 9227 * length vs + 3075

-- a grade and a path within the limits
pub record Within (g : ℕ) (vs : List Vertex) : Type 0 where
  pub low : 1 ≤ g
  pub high : g ≤ 8
  pub count : length vs ≤ 4096
  pub inside : first_outside vs ≡ length vs
