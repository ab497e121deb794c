-- Edges, and the numbers that stand for them in lent room.
use Rattle.std.specs.Prelude.{true, false, List, [], ◌∷◌, ℤ}
use Rattle.plane.specs.Vectors.{same_point}
use Rattle.plane.specs.declared.Point.{Point}
use Rattle.turning.specs.declared.Edge.{Edge}

-- Four numbers an edge, start then end.
unfoldable pub edge_numbers : Edge → List ℤ
edge_numbers e = e.a.x ∷ e.a.y ∷ e.b.x ∷ e.b.y ∷ []

-- Two a point.
unfoldable pub point_numbers : Point → List ℤ
point_numbers p = p.x ∷ p.y ∷ []

-- The edge from p to q. Edges of no length are not emitted.
unfoldable pub edge_of : Point → Point → List Edge
edge_of p q = elim (same_point p q) [ true ↦ [] | false ↦ record { a = p; b = q } ∷ [] ]
