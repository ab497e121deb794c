-- A tour of a kerb's points, piece by piece: what each piece emits, what follows it, and what is still to come. Follows `Kerbs`.
use Rattle.std.specs.Prelude.{◌≡◌, Bool, true, false, not, List, [], ◌∷◌, ◌++◌, ℕ, ◌+◌, ◌-◌, ◌^◌, ◌≤◌, ◌<◌, ltb, ℤ, length, drop, Option, Some, None}
use Rattle.runs.specs.Runs.{spread}
use Rattle.plane.specs.Vectors.{same_point}
use Rattle.plane.specs.declared.Vector.{Vector}
use Rattle.turning.specs.Edges.{edge_of}
use Rattle.folds.specs.Pens.{Lays}
use Rattle.turning.specs.declared.Edge.{Edge}
use Rattle.folds.specs.declared.Pen.{Pen}
use Rattle.contacts.specs.Contacts.{centre_of, section_of}
use Rattle.contacts.specs.declared.Vertex.{Vertex}
use Rattle.contacts.specs.declared.Section.{Section}
use Rattle.kerb.specs.Kerbs.{back_to, sections_from, section_edges, corner_of, corners_from, join_edges, last_of, cap_edges}
use Rattle.kerb.specs.Bounds.{KerbPoint, Clear}
use Rattle.kerb.specs.declared.Style.{Style}
use Rattle.kerb.specs.declared.Phase.{Phase}
use Rattle.kerb.specs.declared.Phase.TheVariants.{Sides, Corners, Caps, Done}
use Rattle.kerb.specs.declared.Span.{Span}
use Rattle.kerb.specs.declared.Tour.{Tour}
use Rattle.kerb.specs.declared.touring.Toured.{Toured}

-- ---- pieces

unfoldable pub sides_of : Section → List Edge
sides_of s = edge_of s.left.b s.left.a ++ edge_of s.right.a s.right.b

unfoldable pub caps_both : Section → Section → List Edge
caps_both f l = edge_of f.left.a f.right.a ++ edge_of l.right.b l.left.b

-- a closed kerb has no caps
unfoldable pub caps_of : Style → Option Span → List Edge
caps_of y None = []
caps_of y (Some p) = elim y.closed [ true ↦ [] | false ↦ caps_both p.first p.last ]

-- its last corner goes from the last section to the first
unfoldable pub closing_of : Vector → Style → Option Span → List Edge
closing_of t y None = []
closing_of t y (Some p) = elim y.closed [ true ↦ corner_of t y p.last p.first | false ↦ [] ]

-- the corner from the last section to s, if there is one
unfoldable pub meet_of : Vector → Style → Option Span → Section → List Edge
meet_of t y None s = []
meet_of t y (Some p) s = corner_of t y p.last s

unfoldable pub held_of : Option Span → Section → Option Span
held_of None s = Some (record { first = s; last = s })
held_of (Some p) s = Some (record { first = p.first; last = s })

-- ---- one point on: a point that equals the one reached is passed over

unfoldable pub side_edges : Vertex → Vertex → List Edge
side_edges a b = elim (same_point (centre_of a) (centre_of b)) [ true ↦ [] | false ↦ sides_of (section_of a b) ]

unfoldable pub meet_edges : Vector → Style → Option Span → Vertex → Vertex → List Edge
meet_edges t y e a b = elim (same_point (centre_of a) (centre_of b)) [ true ↦ [] | false ↦ meet_of t y e (section_of a b) ]

unfoldable pub point_after : Vertex → Vertex → Vertex
point_after a b = elim (same_point (centre_of a) (centre_of b)) [ true ↦ a | false ↦ b ]

unfoldable pub span_after : Option Span → Vertex → Vertex → Option Span
span_after e a b = elim (same_point (centre_of a) (centre_of b)) [ true ↦ e | false ↦ held_of e (section_of a b) ]

-- ---- a tour from v: bs is what lies ahead of it

unfoldable pub tour_from : Vertex → Tour
tour_from v = record { phase = Sides; next = 0; at = v; span = None }

unfoldable pub tour_at_corners : Vertex → Tour
tour_at_corners v = record { phase = Corners; next = 0; at = v; span = None }

unfoldable pub sided_of : Tour → Vertex → Tour
sided_of w b = record { phase = Sides; next = w.next + 1; at = point_after w.at b; span = w.span }

unfoldable pub met_of : Tour → Vertex → Tour
met_of w b = record { phase = Corners; next = w.next + 1; at = point_after w.at b; span = span_after w.span w.at b }

unfoldable pub in_phase : Phase → Tour → Tour
in_phase p w = record { phase = p; next = w.next; at = w.at; span = w.span }

unfoldable pub emits_in : Phase → Vector → Style → List Vertex → Tour → List Edge
emits_in Sides t y [] w = []
emits_in Sides t y (b ∷ bs) w = side_edges w.at b
emits_in Corners t y [] w = closing_of t y w.span
emits_in Corners t y (b ∷ bs) w = meet_edges t y w.span w.at b
emits_in Caps t y bs w = caps_of y w.span
emits_in Done t y bs w = []

unfoldable pub next_in : Phase → Vertex → List Vertex → Tour → Tour
next_in Sides v [] w = tour_at_corners v
next_in Sides v (b ∷ bs) w = sided_of w b
next_in Corners v [] w = in_phase Caps w
next_in Corners v (b ∷ bs) w = met_of w b
next_in Caps v bs w = in_phase Done w
next_in Done v bs w = w

-- the point ahead, if there is more
unfoldable pub ahead_of : Bool → Vertex → List Vertex
ahead_of true b = b ∷ []
ahead_of false b = []

-- what the next piece emits, and the tour after it; qs are the points after the first, and the first again if the kerb closes
unfoldable pub piece_of : Vector → Style → List Vertex → Tour → List Edge
piece_of t y qs w = emits_in w.phase t y (drop w.next qs) w

unfoldable pub tour_after : Vertex → List Vertex → Tour → Tour
tour_after v qs w = next_in w.phase v (drop w.next qs) w

-- ---- what is still to come, body by body

-- the corners and the caps of the sections so far and of ss after them
unfoldable pub rest_joins : Vector → Style → Option Span → List Section → List Edge
rest_joins t y None ss = join_edges t y ss
rest_joins t y (Some p) ss = corners_from t y p.last (ss ++ back_to y.closed p.first)

unfoldable pub rest_caps : Style → Option Span → List Section → List Edge
rest_caps y None ss = cap_edges y ss
rest_caps y (Some p) ss = caps_of y (Some (record { first = p.first; last = last_of p.last ss }))

unfoldable pub bodies_in : Phase → Vector → Style → Vertex → List Vertex → List Vertex → Tour → List (List Edge)
bodies_in Sides t y v qs bs w = section_edges (sections_from w.at bs) ∷ join_edges t y (sections_from v qs) ∷ cap_edges y (sections_from v qs) ∷ []
bodies_in Corners t y v qs bs w = rest_joins t y w.span (sections_from w.at bs) ∷ rest_caps y w.span (sections_from w.at bs) ∷ []
bodies_in Caps t y v qs bs w = caps_of y w.span ∷ []
bodies_in Done t y v qs bs w = []

unfoldable pub rest_bodies : Vector → Style → Vertex → List Vertex → Tour → List (List Edge)
rest_bodies t y v qs w = bodies_in w.phase t y v qs (drop w.next qs) w

-- all of it, one body after another
unfoldable pub rest_of : Vector → Style → Vertex → List Vertex → Tour → List Edge
rest_of t y v qs w = spread (λ (b : List Edge). b) (rest_bodies t y v qs w)

unfoldable pub done_of : Phase → Bool
done_of Sides = false
done_of Corners = false
done_of Caps = false
done_of Done = true

-- whether a piece is its body's last: more tells whether a point lies ahead
unfoldable pub ends_in : Phase → Bool → Bool
ends_in Sides more = not more
ends_in Corners more = not more
ends_in Caps more = true
ends_in Done more = false

unfoldable pub ends_of : List Vertex → Tour → Bool
ends_of qs w = ends_in w.phase (ltb w.next (length qs))

-- a piece's edges and the bodies after it: they are the end of a body, or the beginning of the first
unfoldable pub onto : Bool → List Edge → List (List Edge) → List (List Edge)
onto true es bodies = es ∷ bodies
onto false es [] = es ∷ []
onto false es (b ∷ bodies) = (es ++ b) ∷ bodies

-- The law of a tour: what is to come is what the next piece emits, and what is to come after it, body by body.
abbrev pub TourStep : Type 0
TourStep = (t : Vector) (y : Style) (v : Vertex) (qs : List Vertex) (w : Tour) → done_of w.phase ≡ false
    → rest_bodies t y v qs w ≡ onto (ends_of qs w) (piece_of t y qs w) (rest_bodies t y v qs (tour_after v qs w))

-- No piece has more than 1,539 edges.
abbrev pub PieceMost : Type 0
PieceMost = (t : Vector) (y : Style) (qs : List Vertex) (w : Tour) → length (piece_of t y qs w) ≤ 1539

-- how many pieces are left at most
unfoldable pub left_in : Phase → ℕ → ℕ → ℕ
left_in Sides m k = m - k + m + 4
left_in Corners m k = m - k + 2
left_in Caps m k = 1
left_in Done m k = 0

-- ---- what a tour keeps

-- the point that a tour from a comes to
unfoldable pub last_point : Vertex → List Vertex → Vertex
last_point a [] = a
last_point a (b ∷ bs) = last_point (point_after a b) bs

-- a closed kerb comes back to its first point
unfoldable pub Homeward : Style → Vertex → Vertex → List Vertex → Type 0
Homeward y v a bs = y.closed ≡ true → centre_of (last_point a bs) ≡ centre_of v

unfoldable pub KeptSpan : Phase → Vertex → Vertex → Option Span → Type 0
KeptSpan Sides v a e = Unit {0}
KeptSpan Corners v a None = a ≡ v
KeptSpan Corners v a (Some p) = Clear p.first × Clear p.last × (p.first.a ≡ v) × (p.last.b ≡ a)
KeptSpan Caps v a None = Unit {0}
KeptSpan Caps v a (Some p) = Clear p.first × Clear p.last
KeptSpan Done v a e = Unit {0}

pub record Kept (y : Style) (v : Vertex) (qs : List Vertex) (w : Tour) : Type 0 where
  pub at : KerbPoint y w.at
  pub span : KeptSpan w.phase v w.at w.span
  pub home : Homeward y v w.at (drop w.next qs)

pub record Touring (y : Style) (v : Vertex) (qs : List Vertex) (w : Tour) : Type 0 where
  pub within : w.next ≤ length qs
  pub kept : Kept y v qs w

-- what a piece asks for
pub record Ready (y : Style) (v : Vertex) (w : Tour) (more : Bool) (b : Vertex) : Type 0 where
  pub at : KerbPoint y w.at
  pub first : KerbPoint y v
  pub span : KeptSpan w.phase v w.at w.span
  pub ahead : more ≡ true → KerbPoint y b
  pub next : more ≡ true → w.next + 1 < 2 ^ 64
  pub home : more ≡ false → y.closed ≡ true → centre_of w.at ≡ centre_of v

-- a tour after a piece
pub record Tours (l₀ : List ℤ) (at : ℕ) (pen : Pen) (next : Tour) (es : List Edge) (l₁ : List ℤ) (r : Toured) : Type 0 where
  pub tour : r.tour ≡ next
  pub made : Lays pen.step pen.folds l₀ at es l₁ r.at
