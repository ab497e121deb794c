-- The law of a tour: what is to come is what the next piece emits, and what is to come after it. Assumes nothing.
use Rattle.std.specs.Prelude.{Option, Some, None}
use mathlib.Core.Path.{◌≡◌, refl, sym, ap, ◌∙◌}
use mathlib.Core.Bool.{Bool, true, false, true≢false}
use mathlib.Core.List.{List, [], ◌∷◌, ◌++◌, append_assoc, append-nil}
use Prim.Native.Nat.{ℕ, zero, suc, ◌+◌, ◌≤◌, ◌<◌}
use native.Mathlib.Nat.{lt_of_not-le}
use native.Mathlib.Numerals.{add-one}
use native.Mathlib.Decide.{dec_le}
use native.Mathlib.Omega.{arith}
use borrow.Author.Tests.{lt-ltb, le-ltb}
use lib.Dec.{ltb}
use lib.IntN.{pos}
use lib.Signed.{le_z}
use lib.ListN.{length, drop, drop_of_length-le}
use Rattle.runs.specs.Runs.{spread}
use Rattle.plane.specs.Vectors.{same_point}
use Rattle.plane.specs.Directions.{step_of}
use Rattle.plane.specs.declared.Vector.{Vector}
use Rattle.turning.specs.Edges.{edge_of}
use Rattle.turning.specs.declared.Edge.{Edge}
use Rattle.contacts.specs.Contacts.{centre_of, section_of}
use Rattle.contacts.specs.declared.Vertex.{Vertex}
use Rattle.contacts.specs.declared.Section.{Section}
use Rattle.kerb.specs.Kerbs.{back_to, sections_from, sections_of, section_edges, corner_of, corners_from, join_edges, last_of, cap_edges, kerb_bodies, kerb_edges}
use Rattle.kerb.specs.Tours.{sides_of, caps_both, caps_of, closing_of, meet_of, held_of, side_edges, meet_edges, point_after, span_after, tour_from, tour_at_corners, sided_of, met_of, in_phase, emits_in, next_in, piece_of, tour_after, rest_joins, rest_caps, bodies_in, rest_bodies, rest_of, done_of, ends_in, ends_of, onto, TourStep}
use Rattle.kerb.specs.Theorems.{EdgesAreBodies}
use Rattle.kerb.specs.declared.Style.{Style}
use Rattle.kerb.specs.declared.Phase.{Phase}
use Rattle.kerb.specs.declared.Phase.TheVariants.{Sides, Corners, Caps, Done}
use Rattle.kerb.specs.declared.Span.{Span}
use Rattle.kerb.specs.declared.Tour.{Tour}

-- ---- the points ahead

-- one point less ahead
pub drop_next : (qs : List Vertex) (k : ℕ) (b : Vertex) (bs : List Vertex) → drop k qs ≡ b ∷ bs → drop (k + 1) qs ≡ bs
drop_next qs k b bs e = ap (λ n. drop n qs) (add-one k) ∙ go qs k e
  where
    go : (ps : List Vertex) (j : ℕ) → drop j ps ≡ b ∷ bs → drop (suc j) ps ≡ bs
    go [] zero f = let n : 0 ≡ suc (length bs) = ap length f in absurd (omega (arith, n))
    go [] (suc j) f = let n : 0 ≡ suc (length bs) = ap length f in absurd (omega (arith, n))
    go (p ∷ ps) zero f = ap (drop 1) f
    go (p ∷ ps) (suc j) f = go ps j f

pub some_ahead : (qs : List Vertex) (k : ℕ) (b : Vertex) (bs : List Vertex) → drop k qs ≡ b ∷ bs → k < length qs
some_ahead qs k b bs e = go (dec_le (length qs) k)
  where
    go : Dec (length qs ≤ k) → k < length qs
    go (yes h) = let n : 0 ≡ suc (length bs) = ap length (sym (drop_of_length-le qs h) ∙ e) in absurd (omega (arith, n))
    go (no h) = lt_of_not-le h

none_ahead : (qs : List Vertex) (k : ℕ) → drop k qs ≡ [] → length qs ≤ k
none_ahead [] k e = omega arith
none_ahead (q ∷ qs) zero e = let n : suc (length qs) ≡ 0 = ap length e in absurd (omega (arith, n))
none_ahead (q ∷ qs) (suc k) e = omega (arith, none_ahead qs k e)

-- ---- the sides

side_on : (a b : Vertex) (bs : List Vertex) → section_edges (sections_from a (b ∷ bs)) ≡ side_edges a b ++ section_edges (sections_from (point_after a b) bs)
unfolding sections_from section_edges side_edges point_after sides_of
side_on a b bs = go (same_point (centre_of a) (centre_of b))
  where
    go : (x : Bool) → section_edges (elim x [ true ↦ sections_from a bs | false ↦ section_of a b ∷ sections_from b bs ])
        ≡ elim x [ true ↦ [] | false ↦ sides_of (section_of a b) ] ++ section_edges (sections_from (elim x [ true ↦ a | false ↦ b ]) bs)
    go true = refl
    go false =
        let s = section_of a b in
        sym (append_assoc (edge_of s.left.b s.left.a) (edge_of s.right.a s.right.b) (section_edges (sections_from b bs)))

-- ---- the corners, and the caps after them

module _ (t : Vector) (y : Style) where
  joins_some : (e : Option Span) (s : Section) (ss : List Section) → rest_joins t y e (s ∷ ss) ≡ meet_of t y e s ++ rest_joins t y (held_of e s) ss
  unfolding rest_joins meet_of held_of join_edges corners_from
  joins_some None s ss = refl
  joins_some (Some p) s ss = refl

  caps_some : (e : Option Span) (s : Section) (ss : List Section) → rest_caps y e (s ∷ ss) ≡ rest_caps y (held_of e s) ss
  unfolding rest_caps held_of cap_edges caps_of caps_both last_of
  caps_some None s ss = refl
  caps_some (Some p) s ss = refl

  joins_on : (e : Option Span) (a b : Vertex) (bs : List Vertex)
      → rest_joins t y e (sections_from a (b ∷ bs)) ≡ meet_edges t y e a b ++ rest_joins t y (span_after e a b) (sections_from (point_after a b) bs)
  unfolding sections_from meet_edges span_after point_after
  joins_on e a b bs = go (same_point (centre_of a) (centre_of b))
    where
      go : (x : Bool) → rest_joins t y e (elim x [ true ↦ sections_from a bs | false ↦ section_of a b ∷ sections_from b bs ])
          ≡ elim x [ true ↦ [] | false ↦ meet_of t y e (section_of a b) ] ++ rest_joins t y (elim x [ true ↦ e | false ↦ held_of e (section_of a b) ]) (sections_from (elim x [ true ↦ a | false ↦ b ]) bs)
      go true = refl
      go false = joins_some e (section_of a b) (sections_from b bs)

  caps_on : (e : Option Span) (a b : Vertex) (bs : List Vertex) → rest_caps y e (sections_from a (b ∷ bs)) ≡ rest_caps y (span_after e a b) (sections_from (point_after a b) bs)
  unfolding sections_from span_after point_after
  caps_on e a b bs = go (same_point (centre_of a) (centre_of b))
    where
      go : (x : Bool) → rest_caps y e (elim x [ true ↦ sections_from a bs | false ↦ section_of a b ∷ sections_from b bs ])
          ≡ rest_caps y (elim x [ true ↦ e | false ↦ held_of e (section_of a b) ]) (sections_from (elim x [ true ↦ a | false ↦ b ]) bs)
      go true = refl
      go false = caps_some e (section_of a b) (sections_from b bs)

  joins_last : (e : Option Span) → rest_joins t y e [] ≡ closing_of t y e
  unfolding rest_joins closing_of join_edges corners_from back_to
  joins_last None = refl
  joins_last (Some p) = go y.closed
    where
      go : (x : Bool) → corners_from t y p.last (back_to x p.first) ≡ elim x [ true ↦ corner_of t y p.last p.first | false ↦ [] ]
      go true = append-nil (corner_of t y p.last p.first)
      go false = refl

  caps_last : (e : Option Span) → rest_caps y e [] ≡ caps_of y e
  unfolding rest_caps cap_edges caps_of last_of
  caps_last None = refl
  caps_last (Some p) = refl

  -- ---- the law

  module _ (v : Vertex) (qs : List Vertex) (w : Tour) where
    step_in : (p : Phase) (bs : List Vertex) → drop w.next qs ≡ bs → done_of p ≡ false
        → bodies_in p t y v qs bs w ≡ onto (ends_in p (ltb w.next (length qs))) (emits_in p t y bs w) (rest_bodies t y v qs (next_in p v bs w))
    unfolding bodies_in ends_in onto emits_in rest_bodies next_in tour_at_corners sided_of met_of in_phase sections_from section_edges rest_joins rest_caps done_of
    step_in Sides [] f d = rw (le-ltb w.next (length qs) (none_ahead qs w.next f))
    step_in Sides (b ∷ bs) f d = rw (lt-ltb w.next (length qs) (some_ahead qs w.next b bs f), drop_next qs w.next b bs f) (ap (λ es. es ∷ join_edges t y (sections_from v qs) ∷ cap_edges y (sections_from v qs) ∷ []) (side_on w.at b bs))
    step_in Corners [] f d = rw (le-ltb w.next (length qs) (none_ahead qs w.next f)) (λ i. joins_last w.span i ∷ caps_last w.span i ∷ [])
    step_in Corners (b ∷ bs) f d = rw (lt-ltb w.next (length qs) (some_ahead qs w.next b bs f), drop_next qs w.next b bs f) (λ i. joins_on w.span w.at b bs i ∷ caps_on w.span w.at b bs i ∷ [])
    step_in Caps bs f d = refl
    step_in Done bs f d = absurd (true≢false d)

pub tour_step : TourStep
unfolding rest_bodies piece_of tour_after ends_of
tour_step t y v qs w d = step_in t y v qs w w.phase (drop w.next qs) refl d

-- one body after another
onto_all : (x : Bool) (es : List Edge) (bodies : List (List Edge)) → spread (λ (b : List Edge). b) (onto x es bodies) ≡ es ++ spread (λ (b : List Edge). b) bodies
unfolding onto spread
onto_all true es bodies = refl
onto_all false es [] = refl
onto_all false es (b ∷ bodies) = append_assoc es b (spread (λ (c : List Edge). c) bodies)

pub rest_step : (t : Vector) (y : Style) (v : Vertex) (qs : List Vertex) (w : Tour) → done_of w.phase ≡ false → rest_of t y v qs w ≡ piece_of t y qs w ++ rest_of t y v qs (tour_after v qs w)
unfolding rest_of
rest_step t y v qs w d = ap (spread (λ (b : List Edge). b)) (tour_step t y v qs w d) ∙ onto_all (ends_of qs w) (piece_of t y qs w) (rest_bodies t y v qs (tour_after v qs w))

-- ---- a kerb's bodies

pub edges_are_bodies : EdgesAreBodies
unfolding kerb_edges kerb_bodies spread
edges_are_bodies g y vs =
    let ss = sections_of y vs in
    ap (λ es. section_edges ss ++ (join_edges (step_of g) y ss ++ es)) (sym (append-nil (cap_edges y ss)))

module _ (g : ℕ) (y : Style) where
  -- a tour from the first point emits them, where the radius is above 1
  pub bodies_toured : {t : Vector} (v : Vertex) (vs : List Vertex) → t ≡ step_of g → le_z y.radius (pos 1) ≡ false
      → kerb_bodies g y (v ∷ vs) ≡ rest_bodies t y v (vs ++ back_to y.closed v) (tour_from v)
  unfolding kerb_bodies sections_of rest_bodies bodies_in tour_from
  bodies_toured {t} v vs f e =
      let ss = sections_from v (vs ++ back_to y.closed v) in
      rw (e, sections_of) (ap (λ u. section_edges ss ∷ join_edges u y ss ∷ cap_edges y ss ∷ []) (sym f))

  pub bodies_thin : (vs : List Vertex) → le_z y.radius (pos 1) ≡ true → kerb_bodies g y vs ≡ [] ∷ [] ∷ [] ∷ []
  unfolding kerb_bodies sections_of section_edges join_edges cap_edges
  bodies_thin [] e = refl
  bodies_thin (v ∷ vs) e = rw (e, sections_of)

  pub bodies_none : kerb_bodies g y [] ≡ [] ∷ [] ∷ [] ∷ []
  unfolding kerb_bodies sections_of section_edges join_edges cap_edges
  bodies_none = refl
