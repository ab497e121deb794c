-- Document 01, "Chains".
use Rattle.std.specs.Prelude.{Bool, true, false, ◌||◌, List, [], ◌++◌, Option, Some, None}
use Rattle.std.specs.Int.Signed.{le_z}
use Rattle.plane.specs.declared.Vector.{Vector}
use Rattle.turning.specs.Edges.{edge_of}
use Rattle.turning.specs.Arcs.{circle_of}
use Rattle.turning.specs.declared.Edge.{Edge}
use Rattle.contacts.specs.Contacts.{centre_of, kind_of, section_of}
use Rattle.contacts.specs.Covering.{covered_of}
use Rattle.joins.specs.Joins.{start_cap, end_cap, join_of}
use Rattle.contacts.specs.declared.Vertex.{Vertex}
use Rattle.contacts.specs.declared.Section.{Section}
use Rattle.contacts.specs.declared.Kind.{Kind}
use Rattle.contacts.specs.declared.Kind.TheVariants.{Broken, Drawn, Thin}
use Rattle.joins.specs.declared.Cap.{Cap}
use Rattle.joins.specs.declared.Cap.TheVariants.{Butt, Round}
use Rattle.variable_stroke.specs.declared.Chain.{Chain}
use Rattle.variable_stroke.specs.declared.Walk.{Walk}

-- A chain starts at a vertex with a cap: no section yet, no step marked.
unfoldable pub fresh_of : Vertex → Cap → Chain
fresh_of v k = record { start = v; cap = k; last = None; mark = false }

unfoldable pub both_butt : Cap → Cap → Bool
both_butt Butt Butt = true
both_butt Butt Round = false
both_butt Round end = false

-- Finish: the end cap if there is a last section; otherwise a circle at the start vertex if no step was marked and not both caps are Butt.
unfoldable pub lone_of : Vector → Chain → Cap → List Edge
lone_of t c k = elim (c.mark || both_butt c.cap k) [ true ↦ [] | false ↦ circle_of t (centre_of c.start) c.start.radius ]

unfoldable pub finish_last : Vector → Option Section → Chain → Cap → List Edge
finish_last t (Some s) c k = end_cap t s k
finish_last t None c k = lone_of t c k

unfoldable pub finish_of : Vector → Chain → Cap → List Edge
finish_of t c k = finish_last t c.last c k

-- a join to the chain's last section, or the start cap
unfoldable pub meet_last : Vector → Option Section → Cap → Section → List Edge
meet_last t (Some prev) k s = join_of t prev s
meet_last t None k s = start_cap t s k

-- If drawn: edges b_left to a_left, a_right to b_right; then a join to the chain's last section, or the start cap.
unfoldable pub drawn_of : Vector → Chain → Section → List Edge
drawn_of t c s = edge_of s.left.b s.left.a ++ (edge_of s.right.a s.right.b ++ meet_last t c.last c.cap s)

-- Broken: if ra ≥ rb, finish Round and start Butt; else finish Butt and start Round.
unfoldable pub break_end : Vertex → Vertex → Cap
break_end a b = elim (le_z b.radius a.radius) [ true ↦ Round | false ↦ Butt ]

unfoldable pub break_start : Vertex → Vertex → Cap
break_start a b = elim (le_z b.radius a.radius) [ true ↦ Butt | false ↦ Round ]

-- Not broken, and b is covered: finish Round and start a chain at a with Butt.
unfoldable pub leave_edges : Vector → Walk → Vertex → List Edge
leave_edges t w b = elim (covered_of w.previous b) [ true ↦ finish_of t w.chain Round | false ↦ [] ]

unfoldable pub leave_chain : Walk → Vertex → Chain
leave_chain w b = elim (covered_of w.previous b) [ true ↦ fresh_of w.at Butt | false ↦ w.chain ]

-- The closing cap is then Butt if b is the last vertex. In every other step it is Round.
unfoldable pub leave_closing : Option Section → Vertex → Cap
leave_closing previous b = elim (covered_of previous b) [ true ↦ Butt | false ↦ Round ]

-- Set the mark. The last section is the one drawn, or stays on a thin step.
unfoldable pub marked_of : Chain → Option Section → Chain
marked_of c l = record { start = c.start; cap = c.cap; last = l; mark = true }

-- The step to b: what it emits,
unfoldable pub emitted_of : Vector → Walk → Vertex → List Edge
emitted_of t w b = elim (kind_of w.at b) [
  | Broken ↦ finish_of t w.chain (break_end w.at b)
  | Drawn ↦ leave_edges t w b ++ drawn_of t (leave_chain w b) (section_of w.at b)
  | Thin ↦ leave_edges t w b
]

-- the chain that it leaves,
unfoldable pub next_chain : Kind → Walk → Vertex → Chain
next_chain Broken w b = fresh_of b (break_start w.at b)
next_chain Drawn w b = marked_of (leave_chain w b) (Some (section_of w.at b))
next_chain Thin w b = marked_of (leave_chain w b) (leave_chain w b).last

-- its section, if it was drawn,
unfoldable pub next_last : Kind → Vertex → Vertex → Option Section
next_last Broken a b = None
next_last Drawn a b = Some (section_of a b)
next_last Thin a b = None

-- and the closing cap.
unfoldable pub next_closing : Kind → Option Section → Vertex → Cap
next_closing Broken previous b = Round
next_closing Drawn previous b = leave_closing previous b
next_closing Thin previous b = leave_closing previous b

unfoldable pub next_of : Walk → Vertex → Walk
next_of w b =
    let k = kind_of w.at b in
    record { at = b; chain = next_chain k w b; previous = next_last k w.at b; closing = next_closing k w.previous b }

-- The first chain starts Round at the first vertex.
unfoldable pub start_of : Vertex → Walk
start_of v = record { at = v; chain = fresh_of v Round; previous = None; closing = Round }

-- At the end, finish with the closing cap.
abbrev pub close_of : Vector → Walk → List Edge
close_of t w = finish_of t w.chain w.closing
