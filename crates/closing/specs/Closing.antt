-- Document 02, request 12, "Boundaries that close".
use Rattle.std.specs.Prelude.{◌≡◌, Bool, true, false, not, ◌&&◌, ◌||◌, List, [], ◌∷◌, ℕ, ◌+◌, length, Option, Some, None}
use Rattle.plane.specs.Vectors.{same_point}
use Rattle.plane.specs.declared.Point.{Point}
use Rattle.turning.specs.declared.Edge.{Edge}
use Rattle.contacts.specs.Limits.{first_outside}
use Rattle.contacts.specs.Contacts.{centre_of, kind_of, section_of}
use Rattle.contacts.specs.declared.Vertex.{Vertex}
use Rattle.contacts.specs.declared.Section.{Section}
use Rattle.contacts.specs.declared.Kind.TheVariants.{Broken, Drawn, Thin}
use Rattle.joins.specs.Joins.{left_turns, right_turns, same_centre}
use Rattle.variable_stroke.specs.Chains.{leave_chain, next_of, start_of}
use Rattle.variable_stroke.specs.declared.Walk.{Walk}
use Rattle.paths.specs.Paths.{edges_of}
use Rattle.kerb.specs.Kerbs.{kerb_edges}
use Rattle.kerb.specs.declared.Style.{Style}

-- At each point of the plane as many edges start as end.
unfoldable pub here_of : Point → Point → ℕ
here_of x p = elim (same_point x p) [ true ↦ 1 | false ↦ 0 ]

unfoldable pub starts_at : Point → List Edge → ℕ
starts_at x [] = 0
starts_at x (e ∷ es) = here_of x e.a + starts_at x es

unfoldable pub ends_at : Point → List Edge → ℕ
ends_at x [] = 0
ends_at x (e ∷ es) = here_of x e.b + ends_at x es

pub record Balanced (es : List Edge) : Type 0 where
  pub balance : (x : Point) → starts_at x es ≡ ends_at x es

-- An arc has one end at the centre and one elsewhere.
unfoldable pub one_at_centre : Point → Point → Point → Bool
one_at_centre c p q = elim (same_point p c) [ true ↦ not (same_point q c) | false ↦ same_point q c ]

-- A join's arc has, on its left or on its right.
unfoldable pub left_stray : Section → Section → Bool
left_stray prev next = left_turns prev next && one_at_centre (centre_of next.a) next.left.a prev.left.b

unfoldable pub right_stray : Section → Section → Bool
right_stray prev next = right_turns prev next && one_at_centre (centre_of prev.b) prev.right.b next.right.a

unfoldable pub stray_join : Section → Section → Bool
stray_join prev next = same_centre prev next && (left_stray prev next || right_stray prev next)

unfoldable pub stray_meet : Option Section → Section → Bool
stray_meet None s = false
stray_meet (Some prev) s = stray_join prev s

-- The step to b has such a join; a step of a path has.
unfoldable pub stray_step : Walk → Vertex → Bool
stray_step w b = elim (kind_of w.at b) [ Broken ↦ false | Drawn ↦ stray_meet (leave_chain w b).last (section_of w.at b) | Thin ↦ false ]

unfoldable pub stray_from : Walk → List Vertex → Bool
stray_from w [] = false
stray_from w (b ∷ bs) = stray_step w b || stray_from (next_of w b) bs

unfoldable pub stray_of : List Vertex → Bool
stray_of [] = false
stray_of (v ∷ vs) = stray_from (start_of v) vs

-- For every path accepted at each point as many edges start as end, unless a join's arc has one end at the centre and one elsewhere.
abbrev pub BoundaryCloses : Type 0
BoundaryCloses = (g : ℕ) (vs : List Vertex) → first_outside vs ≡ length vs → stray_of vs ≡ false → Balanced (edges_of g vs)

-- Kerbs have no such join: theirs close always.
abbrev pub KerbCloses : Type 0
KerbCloses = (g : ℕ) (y : Style) (vs : List Vertex) → Balanced (kerb_edges g y vs)
