-- What a tour keeps from piece to piece, and how many pieces are left. Assumes nothing.
use Rattle.std.specs.Prelude.{Option, Some, None}
use mathlib.Core.Path.{◌≡◌, refl, sym, ◌∙◌}
use mathlib.Core.Bool.{Bool, true, false, true≢false}
use mathlib.Core.List.{List, [], ◌∷◌, ◌++◌}
use Prim.Native.Nat.{ℕ, zero, suc, ◌^◌, ◌≤◌, ◌<◌}
use native.Mathlib.Nat.{lt_of_not-le}
use native.Mathlib.Decide.{dec_le}
use native.Mathlib.Omega.{arith}
use borrow.Author.Tests.{lt-ltb, le-ltb}
use lib.Dec.{ltb}
use lib.IntN.{ℤ}
use lib.ListN.{length, get_or, drop, drop_of_length-le}
use lib.Seq.{drop-cons}
use Rattle.plane.specs.Vectors.{same_point}
use Rattle.plane.specs.declared.Vector.{Vector}
use Rattle.turning.specs.declared.Edge.{Edge}
use Rattle.turning.proofs.Rays.{same_point_lem}
use Rattle.contacts.specs.Contacts.{centre_of, section_of}
use Rattle.contacts.specs.declared.Vertex.{Vertex}
use Rattle.kerb.specs.Kerbs.{back_to}
use Rattle.kerb.specs.Bounds.{Styled, KerbPoint, KerbPoints}
use Rattle.kerb.specs.Tours.{held_of, point_after, span_after, tour_from, tour_at_corners, sided_of, met_of, in_phase, ahead_of, emits_in, next_in, piece_of, tour_after, bodies_in, rest_bodies, rest_of, done_of, left_in, last_point, Homeward, KeptSpan, Kept, Touring, Ready}
use Rattle.kerb.specs.declared.Style.{Style}
use Rattle.kerb.specs.declared.Phase.{Phase}
use Rattle.kerb.specs.declared.Phase.TheVariants.{Sides, Corners, Caps, Done}
use Rattle.kerb.specs.declared.Span.{Span}
use Rattle.kerb.specs.declared.Tour.{Tour}
use Rattle.kerb.proofs.ClearSections.{section_clear}
use Rattle.kerb.proofs.TourLaw.{drop_next, some_ahead, rest_step}
use Rattle.runs.specs.Runs.{spread, Runs, Room, put}
use Rattle.runs.proofs.Laws.{room_first, room_as}
use Rattle.runs.proofs.Onward.{Onward, onward_step, onward_as}
use Rattle.turning.specs.Edges.{edge_numbers}

-- ---- the point ahead

module _ (t : Vector) (y : Style) (v : Vertex) (w : Tour) where
  emits_head : (p : Phase) (b : Vertex) (bs : List Vertex) → emits_in p t y (b ∷ []) w ≡ emits_in p t y (b ∷ bs) w
  unfolding emits_in
  emits_head Sides b bs = refl
  emits_head Corners b bs = refl
  emits_head Caps b bs = refl
  emits_head Done b bs = refl

  next_head : (p : Phase) (b : Vertex) (bs : List Vertex) → next_in p v (b ∷ []) w ≡ next_in p v (b ∷ bs) w
  unfolding next_in
  next_head Sides b bs = refl
  next_head Corners b bs = refl
  next_head Caps b bs = refl
  next_head Done b bs = refl

module _ (t : Vector) (y : Style) (v : Vertex) (qs : List Vertex) (w : Tour) (more : Bool) (b d : Vertex) (e : more ≡ ltb w.next (length qs)) (f : w.next < length qs → b ≡ get_or qs w.next d) where
  pub emits_ahead : emits_in w.phase t y (ahead_of more b) w ≡ piece_of t y qs w
  unfolding piece_of ahead_of
  emits_ahead = go (dec_le (length qs) w.next)
    where
      go : Dec (length qs ≤ w.next) → emits_in w.phase t y (ahead_of more b) w ≡ emits_in w.phase t y (drop w.next qs) w
      go (yes h) = rw (e, le-ltb w.next (length qs) h, drop_of_length-le qs h)
      go (no h) =
          let l : w.next < length qs = lt_of_not-le h in
          rw (e, lt-ltb w.next (length qs) l, drop-cons qs w.next d l, f l) (emits_head t y v w w.phase (get_or qs w.next d) _)

  pub next_ahead : next_in w.phase v (ahead_of more b) w ≡ tour_after v qs w
  unfolding tour_after ahead_of
  next_ahead = go (dec_le (length qs) w.next)
    where
      go : Dec (length qs ≤ w.next) → next_in w.phase v (ahead_of more b) w ≡ next_in w.phase v (drop w.next qs) w
      go (yes h) = rw (e, le-ltb w.next (length qs) h, drop_of_length-le qs h)
      go (no h) =
          let l : w.next < length qs = lt_of_not-le h in
          rw (e, lt-ltb w.next (length qs) l, drop-cons qs w.next d l, f l) (next_head t y v w w.phase (get_or qs w.next d) _)

-- ---- what is kept

pub all_at : (y : Style) (vs : List Vertex) (k : ℕ) (d : Vertex) → KerbPoints y vs → k < length vs → KerbPoint y (get_or vs k d)
unfolding KerbPoints
all_at y [] k d h l = absurd (omega arith)
all_at y (v ∷ vs) zero d h l = h.0
all_at y (v ∷ vs) (suc k) d h l = all_at y vs k d h.1 (omega arith)

all_drop : (y : Style) (vs : List Vertex) (k : ℕ) → KerbPoints y vs → KerbPoints y (drop k vs)
unfolding KerbPoints
all_drop y vs zero h = h
all_drop y [] (suc k) h = h
all_drop y (v ∷ vs) (suc k) h = all_drop y vs k h.1

reach_stop : (y : Style) (a b : Vertex) → KerbPoint y a → KerbPoint y b → KerbPoint y (point_after a b)
unfolding point_after
reach_stop y a b h k = go (same_point (centre_of a) (centre_of b))
  where
    go : (x : Bool) → KerbPoint y (elim x [ true ↦ a | false ↦ b ])
    go true = h
    go false = k

module _ {y : Style} (v : Vertex) (s : Styled y) where
  held_kept : (a b : Vertex) (e : Option Span) → KerbPoint y a → KerbPoint y b → same_point (centre_of a) (centre_of b) ≡ false → KeptSpan Corners v a e → KeptSpan Corners v b (held_of e (section_of a b))
  unfolding KeptSpan held_of section_of
  held_kept a b None h k n g = let w = section_clear h k n s in (w, w, g, refl)
  held_kept a b (Some p) h k n g = (g.0, section_clear h k n s, g.2, refl)

  span_kept : (a b : Vertex) (e : Option Span) → KerbPoint y a → KerbPoint y b → KeptSpan Corners v a e → KeptSpan Corners v (point_after a b) (span_after e a b)
  unfolding point_after span_after
  span_kept a b e h k g = go (same_point (centre_of a) (centre_of b)) refl
    where
      go : (x : Bool) → same_point (centre_of a) (centre_of b) ≡ x → KeptSpan Corners v (elim x [ true ↦ a | false ↦ b ]) (elim x [ true ↦ e | false ↦ held_of e (section_of a b) ])
      go true n = g
      go false n = held_kept a b e h k n g

  caps_kept : (a : Vertex) (e : Option Span) → KeptSpan Corners v a e → KeptSpan Caps v a e
  unfolding KeptSpan
  caps_kept a None g = tt
  caps_kept a (Some p) g = (g.0, g.1)

  module _ (qs : List Vertex) (w : Tour) (first : KerbPoint y v) (home : Homeward y v v qs) (h : Kept y v qs w) where
    kept_in : (p : Phase) (bs : List Vertex) → w.phase ≡ p → drop w.next qs ≡ bs → KerbPoints y bs → KeptSpan p v w.at w.span → Homeward y v w.at bs → Kept y v qs (next_in p v bs w)
    unfolding next_in tour_at_corners sided_of met_of in_phase KerbPoints KeptSpan Homeward last_point
    kept_in Sides [] e f a g i = record { at = first; span = refl; home = home }
    kept_in Sides (b ∷ bs) e f a g i = record { at = reach_stop y w.at b h.at a.0; span = tt; home = rw (drop_next qs w.next b bs f) i }
    kept_in Corners [] e f a g i = record { at = h.at; span = caps_kept w.at w.span g; home = h.home }
    kept_in Corners (b ∷ bs) e f a g i = record { at = reach_stop y w.at b h.at a.0; span = span_kept w.at b w.span h.at a.0 g; home = rw (drop_next qs w.next b bs f) i }
    kept_in Caps bs e f a g i = record { at = h.at; span = tt; home = h.home }
    kept_in Done bs e f a g i = h

    kept_next : KerbPoints y qs → Kept y v qs (tour_after v qs w)
    unfolding tour_after
    kept_next a = kept_in w.phase (drop w.next qs) refl refl (all_drop y qs w.next a) h.span h.home

-- what a piece asks for
pub kept_ready : {y : Style} {v : Vertex} {qs : List Vertex} {w : Tour} {more : Bool} {b : Vertex} (d : Vertex) → KerbPoint y v → KerbPoints y qs → Kept y v qs w → length qs < 2 ^ 64
    → more ≡ ltb w.next (length qs) → (w.next < length qs → b ≡ get_or qs w.next d) → Ready y v w more b
unfolding Homeward last_point
kept_ready {y} {v} {qs} {w} {more} {b} d s a h small e f = record {
  at = h.at;
  first = s;
  span = h.span;
  ahead = λ g. let l = told g in rw (f l) (all_at y qs w.next d a l);
  next = λ g. let l = told g in omega (arith, l, small);
  home = λ g c. rw (drop_of_length-le qs (untold g)) at (h.home c);
}
  where
    told : more ≡ true → w.next < length qs
    told g = case (dec_le (length qs) w.next)
      where
        case : Dec (length qs ≤ w.next) → w.next < length qs
        case (yes l) = absurd (true≢false (sym g ∙ e ∙ le-ltb w.next (length qs) l))
        case (no l) = lt_of_not-le l

    untold : more ≡ false → length qs ≤ w.next
    untold g = case (dec_le (length qs) w.next)
      where
        case : Dec (length qs ≤ w.next) → length qs ≤ w.next
        case (yes l) = l
        case (no l) = absurd (true≢false (sym (lt-ltb w.next (length qs) (lt_of_not-le l)) ∙ sym e ∙ g))

-- ---- the start, and the end

kept_start : (y : Style) (v : Vertex) (qs : List Vertex) → KerbPoint y v → Homeward y v v qs → Kept y v qs (tour_from v)
unfolding tour_from KeptSpan
kept_start y v qs s h = record { at = s; span = tt; home = h }

reach_last : (a v : Vertex) → centre_of (point_after a v) ≡ centre_of v
unfolding point_after
reach_last a v = go (same_point (centre_of a) (centre_of v)) refl
  where
    go : (x : Bool) → same_point (centre_of a) (centre_of v) ≡ x → centre_of (elim x [ true ↦ a | false ↦ v ]) ≡ centre_of v
    go true e = same_point_lem (centre_of a) (centre_of v) e
    go false e = refl

reached_last : (a v : Vertex) (vs : List Vertex) → centre_of (last_point a (vs ++ (v ∷ []))) ≡ centre_of v
unfolding last_point
reached_last a v [] = reach_last a v
reached_last a v (b ∷ bs) = reached_last (point_after a b) v bs

pub comes_home : (y : Style) (v : Vertex) (vs : List Vertex) → Homeward y v v (vs ++ back_to y.closed v)
unfolding Homeward back_to
comes_home y v vs = go y.closed
  where
    go : (x : Bool) → x ≡ true → centre_of (last_point v (vs ++ back_to x v)) ≡ centre_of v
    go true e = reached_last v v vs
    go false e = absurd (true≢false (sym e))

pub rest_done : (t : Vector) (y : Style) (v : Vertex) (qs : List Vertex) (w : Tour) → done_of w.phase ≡ true → rest_of t y v qs w ≡ []
unfolding rest_of rest_bodies bodies_in spread done_of
rest_done t y v qs w e = go w.phase e
  where
    go : (p : Phase) → done_of p ≡ true → spread (λ (b : List Edge). b) (bodies_in p t y v qs (drop w.next qs) w) ≡ []
    go Sides f = absurd (true≢false (sym f))
    go Corners f = absurd (true≢false (sym f))
    go Caps f = absurd (true≢false (sym f))
    go Done f = refl

-- ---- how many pieces are left

next_within : (v : Vertex) (qs : List Vertex) (w : Tour) → w.next ≤ length qs → (tour_after v qs w).next ≤ length qs
unfolding tour_after next_in tour_at_corners sided_of met_of in_phase
next_within v qs w h = go w.phase (drop w.next qs) refl
  where
    go : (p : Phase) (bs : List Vertex) → drop w.next qs ≡ bs → (next_in p v bs w).next ≤ length qs
    go Sides [] e = omega arith
    go Sides (b ∷ bs) e = omega (arith, some_ahead qs w.next b bs e)
    go Corners [] e = h
    go Corners (b ∷ bs) e = omega (arith, some_ahead qs w.next b bs e)
    go Caps bs e = h
    go Done bs e = h

left_less : (v : Vertex) (qs : List Vertex) (w : Tour) → done_of w.phase ≡ false → left_in (tour_after v qs w).phase (length qs) (tour_after v qs w).next < left_in w.phase (length qs) w.next
unfolding tour_after next_in tour_at_corners sided_of met_of in_phase left_in done_of
left_less v qs w h = go w.phase (drop w.next qs) refl h
  where
    go : (p : Phase) (bs : List Vertex) → drop w.next qs ≡ bs → done_of p ≡ false → left_in (next_in p v bs w).phase (length qs) (next_in p v bs w).next < left_in p (length qs) w.next
    go Sides [] e f = omega arith
    go Sides (b ∷ bs) e f = omega (arith, some_ahead qs w.next b bs e)
    go Corners [] e f = omega arith
    go Corners (b ∷ bs) e f = omega (arith, some_ahead qs w.next b bs e)
    go Caps bs e f = omega arith
    go Done bs e f = absurd (true≢false f)

-- ---- one piece on: es is what it emitted, u the tour after it

module _ (t : Vector) (y : Style) (v : Vertex) (qs : List Vertex) (w : Tour) (more : done_of w.phase ≡ false) where
  pub piece_room : {a : ℕ} → Room edge_numbers a (rest_of t y v qs w) → Room edge_numbers a (piece_of t y qs w)
  piece_room r = room_first (piece_of t y qs w) (rest_of t y v qs (tour_after v qs w)) (room_as (rest_step t y v qs w more) r)

  pub piece_onward : {s₀ s s' : List ℤ} {a₀ a a' : ℕ} {all : List Edge} {u : Tour} → u ≡ tour_after v qs w
      → Onward put edge_numbers s₀ a₀ all s a (rest_of t y v qs w) → Runs put edge_numbers s a (piece_of t y qs w) s' a' → Onward put edge_numbers s₀ a₀ all s' a' (rest_of t y v qs u)
  piece_onward e o p = rw e (onward_step (onward_as (rest_step t y v qs w more) o) p)

-- all that a loop over a tour keeps
pub touring_next : {y : Style} (v : Vertex) → Styled y → (qs : List Vertex) (w : Tour) {u : Tour} → u ≡ tour_after v qs w → KerbPoint y v → KerbPoints y qs → Homeward y v v qs → Touring y v qs w → Touring y v qs u
touring_next v s qs w e f a home h = rw e (record { within = next_within v qs w h.within; kept = kept_next v s qs w f home h.kept a })

pub left_told : (v : Vertex) (qs : List Vertex) (w : Tour) {u : Tour} → u ≡ tour_after v qs w → done_of w.phase ≡ false → left_in u.phase (length qs) u.next < left_in w.phase (length qs) w.next
left_told v qs w e h = rw e (left_less v qs w h)

pub touring_start : {y : Style} {v : Vertex} {qs : List Vertex} {w : Tour} → w ≡ tour_from v → KerbPoint y v → Homeward y v v qs → Touring y v qs w
unfolding tour_from
touring_start {y} {v} {qs} e s h = rw e (record { within = omega arith; kept = kept_start y v qs s h })
