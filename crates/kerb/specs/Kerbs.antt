-- Document 02, request 3, "Kerbs of one width"; follows stroke/builder.rs and stroke/builder_join.rs, with document 01's sections. Every vertex has the style's radius.
use Rattle.std.specs.Prelude.{Bool, true, false, ◌&&◌, List, [], ◌∷◌, ◌++◌, ℕ, ℤ, pos}
use Rattle.std.specs.Int.Signed.{le_z, lt_z}
use Rattle.plane.specs.Vectors.{same_point, from_to, cross_of, dot_of}
use Rattle.plane.specs.Directions.{direction_of, step_of}
use Rattle.plane.specs.declared.Point.{Point}
use Rattle.plane.specs.declared.Vector.{Vector}
use Rattle.turning.specs.Edges.{edge_of}
use Rattle.turning.specs.Arcs.{swept_of}
use Rattle.turning.specs.declared.Edge.{Edge}
use Rattle.contacts.specs.Contacts.{centre_of, section_of}
use Rattle.joins.specs.Joins.{bend_of}
use Rattle.contacts.specs.declared.Vertex.{Vertex}
use Rattle.contacts.specs.declared.Section.{Section}
use Rattle.kerb.specs.declared.Join.{Join}
use Rattle.kerb.specs.declared.Join.TheVariants.{Bevel, Round}
use Rattle.kerb.specs.declared.Style.{Style}

-- A list that ends where it began, if it is closed.
unfoldable pub back_to : {A : Type 0} → Bool → A → List A
back_to true a = a ∷ []
back_to false a = []

-- A section from each point to the next that differs from it,
unfoldable pub sections_from : Vertex → List Vertex → List Section
sections_from a [] = []
sections_from a (b ∷ bs) = elim (same_point (centre_of a) (centre_of b)) [ true ↦ sections_from a bs | false ↦ section_of a b ∷ sections_from b bs ]

-- back to the first point if closed; none at a radius of 1 or less.
unfoldable pub sections_of : Style → List Vertex → List Section
sections_of y [] = []
sections_of y (v ∷ vs) = elim (le_z y.radius (pos 1)) [ true ↦ [] | false ↦ sections_from v (vs ++ back_to y.closed v) ]

-- Section edges: b_left to a_left, a_right to b_right.
unfoldable pub section_edges : List Section → List Edge
section_edges [] = []
section_edges (s ∷ ss) = edge_of s.left.b s.left.a ++ (edge_of s.right.a s.right.b ++ section_edges ss)

-- A round join is its arc, each direction scaled by the radius; one edge where its directions have cross product 0 or less and dot product above 0.
unfoldable pub straight_of : Vector → Vector → Bool
straight_of d e = le_z (cross_of d e) (pos 0) && lt_z (pos 0) (dot_of d e)

unfoldable pub round_of : Vector → Point → ℤ → Point → Point → List Edge
round_of t c r p q = elim (straight_of (direction_of (from_to c p)) (direction_of (from_to c q))) [ true ↦ edge_of p q | false ↦ swept_of t c r p q ]

unfoldable pub outer_of : Vector → Join → Point → ℤ → Point → Point → List Edge
outer_of t Bevel c r p q = edge_of p q
outer_of t Round c r p q = round_of t c r p q

-- A corner: on its inner side through the vertex, then its outer side, which is the right one where it bends to the left or not at all.
unfoldable pub corner_of : Vector → Style → Section → Section → List Edge
corner_of t y prev next =
    let c = centre_of prev.b in
    elim (le_z (pos 0) (bend_of prev next)) [
      | true ↦ edge_of next.left.a c ++ (edge_of c prev.left.b ++ outer_of t y.join c y.radius prev.right.b next.right.a)
      | false ↦ edge_of prev.right.b c ++ (edge_of c next.right.a ++ outer_of t y.join c y.radius next.left.a prev.left.b)
    ]

unfoldable pub corners_from : Vector → Style → Section → List Section → List Edge
corners_from t y prev [] = []
corners_from t y prev (s ∷ ss) = corner_of t y prev s ++ corners_from t y s ss

unfoldable pub join_edges : Vector → Style → List Section → List Edge
join_edges t y [] = []
join_edges t y (s ∷ ss) = corners_from t y s (ss ++ back_to y.closed s)

-- Both caps are Butt; a closed kerb has none.
unfoldable pub last_of : Section → List Section → Section
last_of s [] = s
last_of s (n ∷ ss) = last_of n ss

unfoldable pub cap_edges : Style → List Section → List Edge
cap_edges y [] = []
cap_edges y (s ∷ ss) = elim y.closed [ true ↦ [] | false ↦ edge_of s.left.a s.right.a ++ edge_of (last_of s ss).right.b (last_of s ss).left.b ]

-- Bodies stand in that order.
unfoldable pub kerb_bodies : ℕ → Style → List Vertex → List (List Edge)
kerb_bodies g y vs =
    let ss = sections_of y vs in
    section_edges ss ∷ join_edges (step_of g) y ss ∷ cap_edges y ss ∷ []

unfoldable pub kerb_edges : ℕ → Style → List Vertex → List Edge
kerb_edges g y vs =
    let ss = sections_of y vs in
    section_edges ss ++ (join_edges (step_of g) y ss ++ cap_edges y ss)
