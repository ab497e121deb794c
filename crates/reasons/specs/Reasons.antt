-- Document 02, request 1, "Why is this edge here?": the edges of each body by the rule that emits them; request 7: whether the ends of sides are exact.
use Rattle.std.specs.Prelude.{◌≡◌, true, false, List, [], ◌∷◌, ◌++◌, ℕ, zero, suc, ◌+◌, ◌<◌, eqb, length, get_or, Option, Some, None}
use Rattle.runs.specs.Runs.{spread}
use Rattle.plane.specs.Directions.{step_of}
use Rattle.plane.specs.declared.Vector.{Vector}
use Rattle.turning.specs.Edges.{edge_of}
use Rattle.turning.specs.declared.Edge.{Edge}
use Rattle.contacts.specs.Contacts.{kind_of, section_of}
use Rattle.contacts.specs.Covering.{covered_of}
use Rattle.contacts.specs.declared.Vertex.{Vertex}
use Rattle.contacts.specs.declared.Exactness.{Exactness}
use Rattle.contacts.specs.declared.Section.{Section}
use Rattle.contacts.specs.declared.Kind.TheVariants.{Broken, Drawn, Thin}
use Rattle.joins.specs.Joins.{start_cap, end_cap, left_join, right_join, same_centre, gap_of}
use Rattle.joins.specs.declared.Cap.{Cap}
use Rattle.joins.specs.declared.Cap.TheVariants.{Round}
use Rattle.variable_stroke.specs.Chains.{lone_of, break_end, leave_chain, next_of, start_of}
use Rattle.variable_stroke.specs.declared.Chain.{Chain}
use Rattle.variable_stroke.specs.declared.Walk.{Walk}
use Rattle.paths.specs.Paths.{bodies_of, edges_of}
use Rattle.reasons.specs.declared.Reason.{Reason}
use Rattle.reasons.specs.declared.Reason.TheVariants.{LeftSide, RightSide, StartCap, EndCap, LeftJoin, RightJoin, Gap, Circle}
use Rattle.reasons.specs.declared.Why.{Why}

-- ---- pieces: what one rule emits

pub record Piece : Type 0 where
  pub reason : Reason
  pub edges : List Edge

-- Finish: the end cap, or the circle of a lone vertex. A circle within a cap or a join bears that one's name.
unfoldable pub finish_pieces : Vector → Option Section → Chain → Cap → List Piece
finish_pieces t (Some s) c k = record { reason = EndCap; edges = end_cap t s k } ∷ []
finish_pieces t None c k = record { reason = Circle; edges = lone_of t c k } ∷ []

-- Join: left and then right, or the caps that close the gap between centres that differ; or the start cap.
unfoldable pub join_pieces : Vector → Section → Section → List Piece
join_pieces t prev next = elim (same_centre prev next) [
  | true ↦ record { reason = LeftJoin; edges = left_join t prev next } ∷ record { reason = RightJoin; edges = right_join t prev next } ∷ []
  | false ↦ record { reason = Gap; edges = gap_of t prev next } ∷ []
]

unfoldable pub meet_pieces : Vector → Option Section → Cap → Section → List Piece
meet_pieces t (Some prev) k s = join_pieces t prev s
meet_pieces t None k s = record { reason = StartCap; edges = start_cap t s k } ∷ []

-- the exactness of an edge that runs from b to a
unfoldable pub backward : Exactness → Exactness
backward e = record { a = e.b; b = e.a }

-- Drawn: both sides of the section, each with its exactness as the edge runs, then the join or the start cap.
unfoldable pub drawn_pieces : Vector → Chain → Section → List Piece
drawn_pieces t c s =
    record { reason = LeftSide (backward s.exact.left); edges = edge_of s.left.b s.left.a }
    ∷ record { reason = RightSide s.exact.right; edges = edge_of s.right.a s.right.b }
    ∷ meet_pieces t c.last c.cap s

-- Covered: finish Round.
unfoldable pub leave_pieces : Vector → Walk → Vertex → List Piece
leave_pieces t w b = elim (covered_of w.previous b) [ true ↦ finish_pieces t w.chain.last w.chain Round | false ↦ [] ]

-- the pieces of the step to b
unfoldable pub pieces_of : Vector → Walk → Vertex → List Piece
pieces_of t w b = elim (kind_of w.at b) [
  | Broken ↦ finish_pieces t w.chain.last w.chain (break_end w.at b)
  | Drawn ↦ leave_pieces t w b ++ drawn_pieces t (leave_chain w b) (section_of w.at b)
  | Thin ↦ leave_pieces t w b
]

-- A path's pieces, body by body, the closing body last.
unfoldable pub pieces_from : Vector → Walk → List Vertex → List (List Piece)
pieces_from t w [] = finish_pieces t w.chain.last w.chain w.closing ∷ []
pieces_from t w (b ∷ bs) = pieces_of t w b ∷ pieces_from t (next_of w b) bs

unfoldable pub pieces_at : Vector → List Vertex → List (List Piece)
pieces_at t [] = [] ∷ []
pieces_at t (v ∷ vs) = [] ∷ pieces_from t (start_of v) vs

unfoldable pub path_pieces : ℕ → List Vertex → List (List Piece)
path_pieces g vs = pieces_at (step_of g) vs

-- Without their reasons the pieces of a body are its edges.
unfoldable pub body_of_pieces : List Piece → List Edge
body_of_pieces ps = spread (λ (p : Piece). p.edges) ps

unfoldable pub bodies_of_pieces : List (List Piece) → List (List Edge)
bodies_of_pieces [] = []
bodies_of_pieces (ps ∷ pss) = body_of_pieces ps ∷ bodies_of_pieces pss

-- ---- why each edge is there

-- n edges of one rule in the body of vertex i, from the place p on
unfoldable pub places_from : Reason → ℕ → ℕ → ℕ → List Why
places_from r i p zero = []
places_from r i p (suc n) = record { reason = r; vertex = i; place = p } ∷ places_from r i (suc p) n

-- each edge of a piece, of the body of vertex i, and of the bodies from there on
unfoldable pub piece_whys : ℕ → Piece → List Why
piece_whys i p = places_from p.reason i 0 (length p.edges)

unfoldable pub body_whys : ℕ → List Piece → List Why
body_whys i ps = spread (piece_whys i) ps

unfoldable pub whys_from : ℕ → List (List Piece) → List Why
whys_from i [] = []
whys_from i (ps ∷ pss) = body_whys i ps ++ whys_from (suc i) pss

-- why each edge of a path is there, in the order of its edges
unfoldable pub whys_of : ℕ → List Vertex → List Why
whys_of g vs = whys_from 0 (path_pieces g vs)

-- The reasons are numbered from 0 in the request's order.
unfoldable pub reason_number : Reason → ℕ
reason_number (LeftSide e) = 0
reason_number (RightSide e) = 1
reason_number StartCap = 2
reason_number EndCap = 3
reason_number LeftJoin = 4
reason_number RightJoin = 5
reason_number Gap = 6
reason_number Circle = 7

-- Request 7: the exactness that is told with a reason: a side's own, and of every other edge none.
abbrev pub not_exact : Exactness
not_exact = record { a = false; b = false }

unfoldable pub exactness_of : Reason → Exactness
exactness_of (LeftSide e) = e
exactness_of (RightSide e) = e
exactness_of StartCap = not_exact
exactness_of EndCap = not_exact
exactness_of LeftJoin = not_exact
exactness_of RightJoin = not_exact
exactness_of Gap = not_exact
exactness_of Circle = not_exact

-- ---- the edge of a reason, a vertex and a place: how many edges stand before it

unfoldable pub place_in_body : List Piece → Why → ℕ
place_in_body [] w = w.place
place_in_body (p ∷ ps) w = elim (eqb (reason_number p.reason) (reason_number w.reason)) [ true ↦ w.place | false ↦ length p.edges + place_in_body ps w ]

unfoldable pub edge_number_from : ℕ → List (List Piece) → Why → ℕ
edge_number_from i [] w = 0
edge_number_from i (ps ∷ pss) w = elim (eqb i w.vertex) [ true ↦ place_in_body ps w | false ↦ length (body_of_pieces ps) + edge_number_from (suc i) pss w ]

unfoldable pub edge_number_of : ℕ → List Vertex → Why → ℕ
edge_number_of g vs w = edge_number_from 0 (path_pieces g vs) w

-- ---- the edges that a rule emits in a body, and the one at a reason, a vertex and a place

unfoldable pub edges_under : List Piece → Reason → List Edge
edges_under [] r = []
edges_under (p ∷ ps) r = elim (eqb (reason_number p.reason) (reason_number r)) [ true ↦ p.edges | false ↦ edges_under ps r ]

unfoldable pub edge_for : ℕ → List Vertex → Why → Edge → Edge
edge_for g vs w d = get_or (edges_under (get_or (path_pieces g vs) w.vertex []) w.reason) w.place d

-- ---- what is proved of them

-- The pieces are document 01's bodies.
abbrev pub PiecesAreBodies : Type 0
PiecesAreBodies = (g : ℕ) (vs : List Vertex) → bodies_of_pieces (path_pieces g vs) ≡ bodies_of g vs

-- An edge number has exactly one reason, vertex and place.
abbrev pub OneReason : Type 0
OneReason = (g : ℕ) (vs : List Vertex) → length (whys_of g vs) ≡ length (edges_of g vs)

-- A reason, vertex and place tell their edge: no other fits there.
abbrev pub OneEdge : Type 0
OneEdge = (g : ℕ) (vs : List Vertex) (k : ℕ) (d : Why) → k < length (whys_of g vs) → edge_number_of g vs (get_or (whys_of g vs) k d) ≡ k

-- The rule that is told emits the edge: it stands at that place among the rule's edges in that body.
abbrev pub RuleEmits : Type 0
RuleEmits = (g : ℕ) (vs : List Vertex) (k : ℕ) (w : Why) (d : Edge) → k < length (whys_of g vs) → edge_for g vs (get_or (whys_of g vs) k w) d ≡ get_or (edges_of g vs) k d
