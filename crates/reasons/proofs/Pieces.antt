-- The pieces of a body, one after another, are the body. Assumes nothing.
use Rattle.std.specs.Prelude.{Option, Some, None}
use mathlib.Core.Path.{◌≡◌, refl, ap, ◌∙◌}
use mathlib.Core.Bool.{Bool, true, false}
use mathlib.Core.List.{List, [], ◌∷◌, ◌++◌, append-nil}
use Rattle.runs.specs.Runs.{spread}
use Rattle.runs.proofs.Laws.{spread-append}
use Rattle.plane.specs.Directions.{step_of}
use Rattle.plane.specs.declared.Vector.{Vector}
use Rattle.turning.specs.Edges.{edge_of}
use Rattle.turning.specs.declared.Edge.{Edge}
use Rattle.contacts.specs.Contacts.{kind_of, section_of}
use Rattle.contacts.specs.Covering.{covered_of}
use Rattle.contacts.specs.declared.Vertex.{Vertex}
use Rattle.contacts.specs.declared.Section.{Section}
use Rattle.contacts.specs.declared.Kind.{Kind}
use Rattle.contacts.specs.declared.Kind.TheVariants.{Broken, Drawn, Thin}
use Rattle.joins.specs.Joins.{left_join, right_join, same_centre, gap_of, join_of}
use Rattle.joins.specs.declared.Cap.{Cap}
use Rattle.joins.specs.declared.Cap.TheVariants.{Round}
use Rattle.variable_stroke.specs.Chains.{finish_last, finish_of, meet_last, drawn_of, break_end, leave_edges, leave_chain, emitted_of, next_of, start_of}
use Rattle.variable_stroke.specs.declared.Chain.{Chain}
use Rattle.variable_stroke.specs.declared.Walk.{Walk}
use Rattle.paths.specs.Paths.{bodies_from, bodies_at, bodies_of}
use Rattle.reasons.specs.Reasons.{Piece, finish_pieces, join_pieces, meet_pieces, drawn_pieces, leave_pieces, pieces_of, pieces_from, pieces_at, path_pieces, body_of_pieces, bodies_of_pieces, PiecesAreBodies}

pub body-append : (ps qs : List Piece) → body_of_pieces (ps ++ qs) ≡ body_of_pieces ps ++ body_of_pieces qs
unfolding body_of_pieces
body-append ps qs = spread-append (λ (p : Piece). p.edges) ps qs

finish_body : (t : Vector) (l : Option Section) (c : Chain) (k : Cap) → body_of_pieces (finish_pieces t l c k) ≡ finish_last t l c k
unfolding body_of_pieces spread finish_pieces finish_last
finish_body t (Some s) c k = append-nil _
finish_body t None c k = append-nil _

join_body : (t : Vector) (prev next : Section) → body_of_pieces (join_pieces t prev next) ≡ join_of t prev next
unfolding body_of_pieces spread join_pieces join_of
join_body t prev next = go (same_centre prev next) refl
  where
    go : (x : Bool) → same_centre prev next ≡ x → body_of_pieces (join_pieces t prev next) ≡ join_of t prev next
    go true e = rw (e, join_pieces, join_of) (ap (λ es. left_join t prev next ++ es) (append-nil (right_join t prev next)))
    go false e = rw (e, join_pieces, join_of) (append-nil (gap_of t prev next))

meet_body : (t : Vector) (l : Option Section) (k : Cap) (s : Section) → body_of_pieces (meet_pieces t l k s) ≡ meet_last t l k s
unfolding body_of_pieces spread meet_pieces meet_last
meet_body t (Some prev) k s = join_body t prev s
meet_body t None k s = append-nil _

drawn_body : (t : Vector) (c : Chain) (s : Section) → body_of_pieces (drawn_pieces t c s) ≡ drawn_of t c s
unfolding body_of_pieces spread drawn_pieces drawn_of
drawn_body t c s = ap (λ es. edge_of s.left.b s.left.a ++ (edge_of s.right.a s.right.b ++ es)) (meet_body t c.last c.cap s)

leave_body : (t : Vector) (w : Walk) (b : Vertex) → body_of_pieces (leave_pieces t w b) ≡ leave_edges t w b
unfolding body_of_pieces spread leave_pieces leave_edges finish_of
leave_body t w b = go (covered_of w.previous b) refl
  where
    go : (x : Bool) → covered_of w.previous b ≡ x → body_of_pieces (leave_pieces t w b) ≡ leave_edges t w b
    go true e = rw (e, leave_pieces, leave_edges) (finish_body t w.chain.last w.chain Round)
    go false e = rw (e, leave_pieces, leave_edges) refl

step_body : (t : Vector) (w : Walk) (b : Vertex) → body_of_pieces (pieces_of t w b) ≡ emitted_of t w b
unfolding pieces_of emitted_of finish_of
step_body t w b = go (kind_of w.at b) refl
  where
    go : (k : Kind) → kind_of w.at b ≡ k → body_of_pieces (pieces_of t w b) ≡ emitted_of t w b
    go Broken e = rw (e, pieces_of, emitted_of) (finish_body t w.chain.last w.chain (break_end w.at b))
    go Drawn e =
        rw (e, pieces_of, emitted_of)
        (body-append (leave_pieces t w b) (drawn_pieces t (leave_chain w b) (section_of w.at b))
        ∙ ap (λ es. es ++ body_of_pieces (drawn_pieces t (leave_chain w b) (section_of w.at b))) (leave_body t w b)
        ∙ ap (λ es. leave_edges t w b ++ es) (drawn_body t (leave_chain w b) (section_of w.at b)))
    go Thin e = rw (e, pieces_of, emitted_of) (leave_body t w b)

from_bodies : (t : Vector) (w : Walk) (bs : List Vertex) → bodies_of_pieces (pieces_from t w bs) ≡ bodies_from t w bs
unfolding bodies_of_pieces pieces_from bodies_from finish_of
from_bodies t w [] = ap (λ (es : List Edge). es ∷ []) (finish_body t w.chain.last w.chain w.closing)
from_bodies t w (b ∷ bs) = λ i. step_body t w b i ∷ from_bodies t (next_of w b) bs i

pub at_bodies : (t : Vector) (vs : List Vertex) → bodies_of_pieces (pieces_at t vs) ≡ bodies_at t vs
unfolding bodies_of_pieces body_of_pieces pieces_at bodies_at spread
at_bodies t [] = refl
at_bodies t (v ∷ vs) = ap (λ (bs : List (List Edge)). [] ∷ bs) (from_bodies t (start_of v) vs)

pub pieces_are_bodies : PiecesAreBodies
unfolding path_pieces bodies_of
pieces_are_bodies g vs = at_bodies (step_of g) vs
