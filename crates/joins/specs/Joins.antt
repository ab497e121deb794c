-- Document 01, "Chains": caps and joins.
use Rattle.std.specs.Prelude.{Bool, true, false, ◌||◌, List, ◌++◌, ℤ, pos}
use Rattle.std.specs.Int.Signed.{le_z, lt_z}
use Rattle.plane.specs.Vectors.{same_point, from_to, cross_of}
use Rattle.plane.specs.declared.Point.{Point}
use Rattle.plane.specs.declared.Vector.{Vector}
use Rattle.turning.specs.Edges.{edge_of}
use Rattle.turning.specs.Arcs.{ring_of, arc_of}
use Rattle.turning.specs.declared.Edge.{Edge}
use Rattle.turning.specs.declared.Sweep.{Sweep}
use Rattle.turning.specs.declared.Sweep.TheVariants.{Minor, Major}
use Rattle.contacts.specs.Contacts.{centre_of, line_of}
use Rattle.contacts.specs.declared.Vertex.{Vertex}
use Rattle.contacts.specs.declared.Trend.{Trend}
use Rattle.contacts.specs.declared.Trend.TheVariants.{Decreasing, Constant, Increasing}
use Rattle.contacts.specs.declared.Section.{Section}
use Rattle.joins.specs.declared.Cap.{Cap}
use Rattle.joins.specs.declared.Cap.TheVariants.{Butt, Round}

-- Document 02, request 6: the inner points of an arc about a vertex, from the contact p on, lie as far out as p does, which is the integer root of its
-- squared distance from the centre.
unfoldable pub inner_of : Vertex → Point → ℤ
inner_of v p = ring_of (from_to (centre_of v) p)

-- an arc between two contacts of a vertex
unfoldable pub arc_about : Vector → Vertex → Point → Point → Sweep → List Edge
arc_about t v p q choice = arc_of t (centre_of v) (inner_of v p) p q choice

-- Start cap: Butt is a_left to a_right; Round is an arc that way, Major if aligned and decreasing, else Minor.
unfoldable pub start_choice : Trend → Sweep
start_choice Decreasing = Major
start_choice Constant = Minor
start_choice Increasing = Minor

unfoldable pub start_cap : Vector → Section → Cap → List Edge
start_cap t s Butt = edge_of s.left.a s.right.a
start_cap t s Round = arc_about t s.a s.left.a s.right.a (start_choice s.trend)

-- End cap: b_right to b_left, Major if aligned and increasing.
unfoldable pub end_choice : Trend → Sweep
end_choice Decreasing = Minor
end_choice Constant = Minor
end_choice Increasing = Major

unfoldable pub end_cap : Vector → Section → Cap → List Edge
end_cap t s Butt = edge_of s.right.b s.left.b
end_cap t s Round = arc_about t s.b s.right.b s.left.b (end_choice s.trend)

-- Left and right vectors run from a-contact to b-contact.
unfoldable pub along_of : Edge → Vector
along_of e = from_to e.a e.b

-- prev × next centre line
unfoldable pub bend_of : Section → Section → ℤ
bend_of prev next = cross_of (line_of prev.a prev.b) (line_of next.a next.b)

-- Left first: next.a_left to prev.b_left, an arc (Minor if aligned) when next left × prev left > 0 or prev × next centre line < 0, else an edge.
unfoldable pub left_turns : Section → Section → Bool
left_turns prev next = lt_z (pos 0) (cross_of (along_of next.left) (along_of prev.left)) || lt_z (bend_of prev next) (pos 0)

unfoldable pub left_join : Vector → Section → Section → List Edge
left_join t prev next = elim (left_turns prev next) [
  | true ↦ arc_about t next.a next.left.a prev.left.b Minor
  | false ↦ edge_of next.left.a prev.left.b
]

-- Then prev.b_right to next.a_right, an arc (Major if aligned) when prev right × next right > 0 or prev × next centre line ≥ 0, else an edge.
unfoldable pub right_turns : Section → Section → Bool
right_turns prev next = lt_z (pos 0) (cross_of (along_of prev.right) (along_of next.right)) || le_z (pos 0) (bend_of prev next)

unfoldable pub right_join : Vector → Section → Section → List Edge
right_join t prev next = elim (right_turns prev next) [
  | true ↦ arc_about t prev.b prev.right.b next.right.a Major
  | false ↦ edge_of prev.right.b next.right.a
]

unfoldable pub same_centre : Section → Section → Bool
same_centre prev next = same_point (centre_of prev.b) (centre_of next.a)

-- Join: if the two centres differ, end cap Butt and start cap Butt; else left, then right.
unfoldable pub gap_of : Vector → Section → Section → List Edge
gap_of t prev next = end_cap t prev Butt ++ start_cap t next Butt

unfoldable pub join_of : Vector → Section → Section → List Edge
join_of t prev next = elim (same_centre prev next) [ true ↦ left_join t prev next ++ right_join t prev next | false ↦ gap_of t prev next ]
