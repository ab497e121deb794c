-- As many reasons as edges, and each tells its edge: no rule heads two pieces of one body. Assumes nothing.
use Rattle.std.specs.Prelude.{Option, Some, None}
use mathlib.Core.Path.{◌≡◌, refl, sym, ap, ◌∙◌}
use mathlib.Core.Bool.{Bool, true, false}
use mathlib.Core.List.{List, [], ◌∷◌, ◌++◌}
use Prim.Native.Nat.{ℕ, zero, suc, ◌+◌, ◌-◌, ◌≤◌, ◌<◌}
use native.Mathlib.Nat.{zero-add}
use native.Mathlib.Omega.{arith}
use borrow.Author.Tests.{ltb-true, ltb-false, eq-eqb, ne_eqb}
use lib.Dec.{ltb}
use lib.ListN.{length, get_or, length-append, get_or-append}
use lib.Seq.{get_or-append-add}
use Rattle.runs.specs.Runs.{spread}
use Rattle.paths.specs.Paths.{joined, edges_of}
use Rattle.plane.specs.Directions.{step_of}
use Rattle.plane.specs.declared.Vector.{Vector}
use Rattle.contacts.specs.Contacts.{kind_of, section_of}
use Rattle.contacts.specs.Covering.{covered_of}
use Rattle.contacts.specs.declared.Vertex.{Vertex}
use Rattle.contacts.specs.declared.Section.{Section}
use Rattle.contacts.specs.declared.Kind.{Kind}
use Rattle.contacts.specs.declared.Kind.TheVariants.{Broken, Drawn, Thin}
use Rattle.joins.specs.Joins.{same_centre, left_join, right_join, gap_of}
use Rattle.joins.specs.declared.Cap.{Cap}
use Rattle.joins.specs.declared.Cap.TheVariants.{Round}
use Rattle.variable_stroke.specs.Chains.{break_end, leave_chain, next_of, start_of}
use Rattle.variable_stroke.specs.declared.Chain.{Chain}
use Rattle.variable_stroke.specs.declared.Walk.{Walk}
use Rattle.reasons.specs.Reasons.{Piece, finish_pieces, join_pieces, meet_pieces, drawn_pieces, leave_pieces, pieces_of, pieces_from, pieces_at, path_pieces, body_of_pieces, bodies_of_pieces, places_from, piece_whys, body_whys, whys_from, whys_of, reason_number, place_in_body, edge_number_from, edge_number_of, OneReason, OneEdge}
use Rattle.reasons.specs.declared.Reason.{Reason}
use Rattle.reasons.specs.declared.Reason.TheVariants.{LeftJoin, RightJoin, Gap}
use Rattle.reasons.specs.declared.Why.{Why}
use Rattle.reasons.proofs.Pieces.{pieces_are_bodies}
use Rattle.reasons.proofs.Listed.{places_length}

-- ---- how many

pub body-length : (i : ℕ) (ps : List Piece) → length (body_whys i ps) ≡ length (body_of_pieces ps)
unfolding body_whys body_of_pieces spread piece_whys
body-length i [] = refl
body-length i (p ∷ ps) =
    let e : length (body_whys i ps) ≡ length (body_of_pieces ps) = body-length i ps in
    omega (arith, e, places_length p.reason i 0 (length p.edges), length-append (places_from p.reason i 0 (length p.edges)) (body_whys i ps), length-append p.edges (body_of_pieces ps))

from-length : (i : ℕ) (pss : List (List Piece)) → length (whys_from i pss) ≡ length (joined (bodies_of_pieces pss))
unfolding whys_from joined bodies_of_pieces
from-length i [] = refl
from-length i (ps ∷ pss) =
    omega (arith, from-length (suc i) pss, body-length i ps, length-append (body_whys i ps) (whys_from (suc i) pss), length-append (body_of_pieces ps) (joined (bodies_of_pieces pss)))

pub one_reason : OneReason
unfolding whys_of edges_of
one_reason g vs = from-length 0 (path_pieces g vs) ∙ ap (λ bs. length (joined bs)) (pieces_are_bodies g vs)

-- ---- places

places_at : (r : Reason) (i p n k : ℕ) (d : Why) → k < n → get_or (places_from r i p n) k d ≡ record { reason = r; vertex = i; place = p + k }
unfolding places_from
places_at r i p zero k d h = absurd (omega arith)
places_at r i p (suc n) zero d h = ap (λ (m : ℕ). record { reason = r; vertex = i; place = m }) (omega arith)
places_at r i p (suc n) (suc k) d h = places_at r i (suc p) n k d (omega arith) ∙ ap (λ (m : ℕ). record { reason = r; vertex = i; place = m }) (omega arith)

-- ---- a row of pieces that one rule heads no piece of, and one in which no rule heads two

unfoldable pub Without : ℕ → List Piece → Type 0
Without m [] = Unit {0}
Without m (p ∷ ps) = (reason_number p.reason ≡ m → ⊥) × Without m ps

unfoldable pub Once : List Piece → Type 0
Once [] = Unit {0}
Once (p ∷ ps) = Without (reason_number p.reason) ps × Once ps

unfoldable pub AllOnce : List (List Piece) → Type 0
AllOnce [] = Unit {0}
AllOnce (ps ∷ pss) = Once ps × AllOnce pss

module _ (i : ℕ) (p : Piece) (ps : List Piece) (d : Why) where
  pub first_why : (k : ℕ) → k < length p.edges → get_or (body_whys i (p ∷ ps)) k d ≡ record { reason = p.reason; vertex = i; place = k }
  unfolding body_whys spread piece_whys
  first_why k h =
      let l : k < length (places_from p.reason i 0 (length p.edges)) = omega (arith, places_length p.reason i 0 (length p.edges)) in
      get_or-append (places_from p.reason i 0 (length p.edges)) (body_whys i ps) d k l ∙ places_at p.reason i 0 (length p.edges) k d h ∙ ap (λ (m : ℕ). record { reason = p.reason; vertex = i; place = m }) (zero-add k)

  pub later_why : (k : ℕ) → get_or (body_whys i (p ∷ ps)) (length p.edges + k) d ≡ get_or (body_whys i ps) k d
  unfolding body_whys spread piece_whys
  later_why k = rw (places_length p.reason i 0 (length p.edges)) at (get_or-append-add (places_from p.reason i 0 (length p.edges)) (body_whys i ps) k d)

  pub body_more : length (body_whys i (p ∷ ps)) ≡ length p.edges + length (body_whys i ps)
  unfolding body_whys spread piece_whys
  body_more = omega (arith, places_length p.reason i 0 (length p.edges), length-append (places_from p.reason i 0 (length p.edges)) (body_whys i ps))

before_here : (p : Piece) (ps : List Piece) (w : Why) → reason_number p.reason ≡ reason_number w.reason → place_in_body (p ∷ ps) w ≡ w.place
unfolding place_in_body
before_here p ps w e = rw (eq-eqb (reason_number p.reason) (reason_number w.reason) e, place_in_body)

before_later : (p : Piece) (ps : List Piece) (w : Why) → (reason_number p.reason ≡ reason_number w.reason → ⊥) → place_in_body (p ∷ ps) w ≡ length p.edges + place_in_body ps w
unfolding place_in_body
before_later p ps w h = rw (ne_eqb (reason_number p.reason) (reason_number w.reason) h, place_in_body)

pub none_here : (i k : ℕ) → k < length (body_whys i []) → ⊥
unfolding body_whys spread
none_here i k h = omega arith

pub without-at : (m i : ℕ) (ps : List Piece) (k : ℕ) (d : Why) → Without m ps → k < length (body_whys i ps) → reason_number (get_or (body_whys i ps) k d).reason ≡ m → ⊥
unfolding Without
without-at m i [] k d h l = absurd (none_here i k l)
without-at m i (p ∷ ps) k d h l = go (ltb k (length p.edges)) refl (λ j. without-at m i ps j d h.1)
  where
    go : (x : Bool) → ltb k (length p.edges) ≡ x → ((j : ℕ) → j < length (body_whys i ps) → reason_number (get_or (body_whys i ps) j d).reason ≡ m → ⊥) → reason_number (get_or (body_whys i (p ∷ ps)) k d).reason ≡ m → ⊥
    go true e rest = rw (first_why i p ps d k (ltb-true k (length p.edges) e)) h.0
    go false e rest =
        let n : length p.edges ≤ k = ltb-false k (length p.edges) e in
        let f : k ≡ length p.edges + (k - length p.edges) = omega arith in
        let g : get_or (body_whys i (p ∷ ps)) k d ≡ get_or (body_whys i ps) (k - length p.edges) d = ap (λ j. get_or (body_whys i (p ∷ ps)) j d) f ∙ later_why i p ps d (k - length p.edges) in
        rw g (rest (k - length p.edges) (omega (arith, body_more i p ps d)))

pub body_tells : (i : ℕ) (ps : List Piece) (k : ℕ) (d : Why) → Once ps → k < length (body_whys i ps) → ((get_or (body_whys i ps) k d).vertex ≡ i) × (place_in_body ps (get_or (body_whys i ps) k d) ≡ k)
unfolding Once
body_tells i [] k d h l = absurd (none_here i k l)
body_tells i (p ∷ ps) k d h l = go (ltb k (length p.edges)) refl (λ j. body_tells i ps j d h.1)
  where
    go : (x : Bool) → ltb k (length p.edges) ≡ x → ((j : ℕ) → j < length (body_whys i ps) → ((get_or (body_whys i ps) j d).vertex ≡ i) × (place_in_body ps (get_or (body_whys i ps) j d) ≡ j))
        → ((get_or (body_whys i (p ∷ ps)) k d).vertex ≡ i) × (place_in_body (p ∷ ps) (get_or (body_whys i (p ∷ ps)) k d) ≡ k)
    go true e rest = rw (first_why i p ps d k (ltb-true k (length p.edges) e)) (refl, before_here p ps (record { reason = p.reason; vertex = i; place = k }) refl)
    go false e rest =
        let n : length p.edges ≤ k = ltb-false k (length p.edges) e in
        let f : k ≡ length p.edges + (k - length p.edges) = omega arith in
        let g : get_or (body_whys i (p ∷ ps)) k d ≡ get_or (body_whys i ps) (k - length p.edges) d = ap (λ j. get_or (body_whys i (p ∷ ps)) j d) f ∙ later_why i p ps d (k - length p.edges) in
        let m : k - length p.edges < length (body_whys i ps) = omega (arith, body_more i p ps d) in
        let q = rest (k - length p.edges) m in
        let o = without-at (reason_number p.reason) i ps (k - length p.edges) d h.0 m in
        rw g (q.0, before_later p ps (get_or (body_whys i ps) (k - length p.edges) d) (λ z. o (sym z)) ∙ ap (λ j. length p.edges + j) q.1 ∙ sym f)

number_here : (i : ℕ) (ps : List Piece) (pss : List (List Piece)) (w : Why) → i ≡ w.vertex → edge_number_from i (ps ∷ pss) w ≡ place_in_body ps w
unfolding edge_number_from
number_here i ps pss w e = rw (eq-eqb i w.vertex e, edge_number_from)

number_later : (i : ℕ) (ps : List Piece) (pss : List (List Piece)) (w : Why) → (i ≡ w.vertex → ⊥) → edge_number_from i (ps ∷ pss) w ≡ length (body_of_pieces ps) + edge_number_from (suc i) pss w
unfolding edge_number_from
number_later i ps pss w h = rw (ne_eqb i w.vertex h, edge_number_from)

pub from_tells : (i : ℕ) (pss : List (List Piece)) (k : ℕ) (d : Why) → AllOnce pss → k < length (whys_from i pss) → (i ≤ (get_or (whys_from i pss) k d).vertex) × (edge_number_from i pss (get_or (whys_from i pss) k d) ≡ k)
unfolding AllOnce whys_from
from_tells i [] k d h l = absurd (omega arith)
from_tells i (ps ∷ pss) k d h l = go (ltb k (length (body_whys i ps))) refl (λ j. from_tells (suc i) pss j d h.1)
  where
    go : (x : Bool) → ltb k (length (body_whys i ps)) ≡ x
        → ((j : ℕ) → j < length (whys_from (suc i) pss) → (suc i ≤ (get_or (whys_from (suc i) pss) j d).vertex) × (edge_number_from (suc i) pss (get_or (whys_from (suc i) pss) j d) ≡ j))
        → (i ≤ (get_or (body_whys i ps ++ whys_from (suc i) pss) k d).vertex) × (edge_number_from i (ps ∷ pss) (get_or (body_whys i ps ++ whys_from (suc i) pss) k d) ≡ k)
    go true e rest =
        let m = ltb-true k (length (body_whys i ps)) e in
        let q = body_tells i ps k d h.0 m in
        rw (get_or-append (body_whys i ps) (whys_from (suc i) pss) d k m) (omega (arith, q.0), number_here i ps pss (get_or (body_whys i ps) k d) (sym q.0) ∙ q.1)
    go false e rest =
        let n : length (body_whys i ps) ≤ k = ltb-false k (length (body_whys i ps)) e in
        let f : k ≡ length (body_whys i ps) + (k - length (body_whys i ps)) = omega arith in
        let g : get_or (body_whys i ps ++ whys_from (suc i) pss) k d ≡ get_or (whys_from (suc i) pss) (k - length (body_whys i ps)) d = ap (λ j. get_or (body_whys i ps ++ whys_from (suc i) pss) j d) f ∙ get_or-append-add (body_whys i ps) (whys_from (suc i) pss) (k - length (body_whys i ps)) d in
        let q = rest (k - length (body_whys i ps)) (omega (arith, length-append (body_whys i ps) (whys_from (suc i) pss))) in
        rw g (omega (arith, q.0), number_later i ps pss (get_or (whys_from (suc i) pss) (k - length (body_whys i ps)) d) (λ z. omega (arith, q.0)) ∙ ap (λ j. length (body_of_pieces ps) + j) q.1 ∙ ap (λ j. j + (k - length (body_whys i ps))) (sym (body-length i ps)) ∙ sym f)

-- ---- no rule heads two pieces of a body

meet_without : (t : Vector) (l : Option Section) (k : Cap) (s : Section) (m : ℕ) → (2 ≡ m → ⊥) → (4 ≡ m → ⊥) → (5 ≡ m → ⊥) → (6 ≡ m → ⊥) → Without m (meet_pieces t l k s)
unfolding Without meet_pieces join_pieces reason_number
meet_without t (Some prev) k s m h₂ h₄ h₅ h₆ = go (same_centre prev s)
  where
    go : (x : Bool) → Without m (elim x [ true ↦ record { reason = LeftJoin; edges = left_join t prev s } ∷ record { reason = RightJoin; edges = right_join t prev s } ∷ [] | false ↦ record { reason = Gap; edges = gap_of t prev s } ∷ [] ])
    go true = (h₄, (h₅, tt))
    go false = (h₆, tt)
meet_without t None k s m h₂ h₄ h₅ h₆ = (h₂, tt)

meet_once : (t : Vector) (l : Option Section) (k : Cap) (s : Section) → Once (meet_pieces t l k s)
unfolding Once Without meet_pieces join_pieces reason_number
meet_once t (Some prev) k s = go (same_centre prev s)
  where
    go : (x : Bool) → Once (elim x [ true ↦ record { reason = LeftJoin; edges = left_join t prev s } ∷ record { reason = RightJoin; edges = right_join t prev s } ∷ [] | false ↦ record { reason = Gap; edges = gap_of t prev s } ∷ [] ])
    go true = (((λ e. omega arith), tt), (tt, tt))
    go false = (tt, tt)
meet_once t None k s = (tt, tt)

module _ (t : Vector) (c : Chain) (s : Section) where
  drawn_without : (m : ℕ) → (0 ≡ m → ⊥) → (1 ≡ m → ⊥) → (2 ≡ m → ⊥) → (4 ≡ m → ⊥) → (5 ≡ m → ⊥) → (6 ≡ m → ⊥) → Without m (drawn_pieces t c s)
  unfolding Without drawn_pieces reason_number
  drawn_without m h₀ h₁ h₂ h₄ h₅ h₆ = (h₀, (h₁, meet_without t c.last c.cap s m h₂ h₄ h₅ h₆))

  drawn_once : Once (drawn_pieces t c s)
  unfolding Once Without drawn_pieces reason_number
  drawn_once = (
    ((λ e. omega arith), meet_without t c.last c.cap s 0 (λ e. omega arith) (λ e. omega arith) (λ e. omega arith) (λ e. omega arith)),
    (
      meet_without t c.last c.cap s 1 (λ e. omega arith) (λ e. omega arith) (λ e. omega arith) (λ e. omega arith),
      meet_once t c.last c.cap s,
    ),
  )

  finish_drawn_once : (l : Option Section) (d : Chain) (k : Cap) → Once (finish_pieces t l d k ++ drawn_pieces t c s)
  unfolding Once finish_pieces reason_number
  finish_drawn_once (Some r) d k = (drawn_without 3 (λ e. omega arith) (λ e. omega arith) (λ e. omega arith) (λ e. omega arith) (λ e. omega arith) (λ e. omega arith), drawn_once)
  finish_drawn_once None d k = (drawn_without 7 (λ e. omega arith) (λ e. omega arith) (λ e. omega arith) (λ e. omega arith) (λ e. omega arith) (λ e. omega arith), drawn_once)

none_once : Once []
unfolding Once
none_once = tt

finish_once : (t : Vector) (l : Option Section) (c : Chain) (k : Cap) → Once (finish_pieces t l c k)
unfolding Once Without finish_pieces
finish_once t (Some s) c k = (tt, tt)
finish_once t None c k = (tt, tt)

step_once : (t : Vector) (w : Walk) (b : Vertex) → Once (pieces_of t w b)
unfolding pieces_of leave_pieces
step_once t w b = go (kind_of w.at b) (covered_of w.previous b) refl
  where
    go : (k : Kind) (x : Bool) → covered_of w.previous b ≡ x → Once (elim k [
      | Broken ↦ finish_pieces t w.chain.last w.chain (break_end w.at b)
      | Drawn ↦ leave_pieces t w b ++ drawn_pieces t (leave_chain w b) (section_of w.at b)
      | Thin ↦ leave_pieces t w b
    ])
    go Broken x e = finish_once t w.chain.last w.chain (break_end w.at b)
    go Drawn true e = rw (e, leave_pieces) (finish_drawn_once t (leave_chain w b) (section_of w.at b) w.chain.last w.chain Round)
    go Drawn false e = rw (e, leave_pieces) (drawn_once t (leave_chain w b) (section_of w.at b))
    go Thin true e = rw (e, leave_pieces) (finish_once t w.chain.last w.chain Round)
    go Thin false e = rw (e, leave_pieces) none_once

from_once : (t : Vector) (w : Walk) (bs : List Vertex) → AllOnce (pieces_from t w bs)
unfolding AllOnce pieces_from
from_once t w [] = (finish_once t w.chain.last w.chain w.closing, tt)
from_once t w (b ∷ bs) = (step_once t w b, from_once t (next_of w b) bs)

pub at_once : (t : Vector) (vs : List Vertex) → AllOnce (pieces_at t vs)
unfolding AllOnce pieces_at
at_once t [] = (none_once, tt)
at_once t (v ∷ vs) = (none_once, from_once t (start_of v) vs)

pub one_edge : OneEdge
unfolding whys_of edge_number_of path_pieces
one_edge g vs k d h = (from_tells 0 (pieces_at (step_of g) vs) k d (at_once (step_of g) vs) h).1
