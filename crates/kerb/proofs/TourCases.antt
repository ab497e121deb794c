-- One law for each case of a tour's pieces, with what the code has computed as variables and equations. Assumes nothing.
use denote.Enum.Bare.{sameb}
use Rattle.std.specs.Prelude.{Option, Some, None}
use mathlib.Core.Path.{◌≡◌, refl, sym, ap, ◌∙◌}
use mathlib.Core.Bool.{Bool, true, false}
use mathlib.Core.List.{List, []}
use Prim.Native.Nat.{ℕ, ◌+◌}
use lib.IntN.{ℤ}
use Rattle.plane.specs.Vectors.{same_point}
use Rattle.plane.specs.declared.Point.{Point}
use Rattle.plane.specs.declared.Vector.{Vector}
use Rattle.folds.specs.declared.Pen.{Pen}
use Rattle.folds.proofs.Laid.{lays_as}
use Rattle.contacts.specs.Contacts.{centre_of, section_of}
use Rattle.contacts.specs.declared.Vertex.{Vertex}
use Rattle.contacts.specs.declared.Section.{Section}
use Rattle.kerb.specs.Kerbs.{corner_of}
use Rattle.kerb.specs.Bounds.{Styled, KerbPoint, Clear, Joins, Joining, Closes, Capped}
use Rattle.kerb.specs.Tours.{sides_of, caps_both, caps_of, closing_of, meet_of, held_of, side_edges, meet_edges, point_after, span_after, tour_at_corners, sided_of, met_of, in_phase, ahead_of, emits_in, next_in, done_of, KeptSpan, Ready, Tours}
use Rattle.kerb.specs.declared.Style.{Style}
use Rattle.kerb.specs.contracts.Phase.{the_type}
use Rattle.kerb.specs.declared.Phase.{Phase}
use Rattle.kerb.specs.declared.Phase.TheVariants.{Sides, Corners, Caps, Done}
use Rattle.kerb.specs.declared.Span.{Span}
use Rattle.kerb.specs.declared.Tour.{Tour}
use Rattle.kerb.specs.declared.touring.Toured.{Toured}
use Rattle.kerb.proofs.ClearSections.{section_clear}

-- ---- whether every piece is done

pub done_told : (p : Phase) {x : Bool} → x ≡ sameb the_type p Done → x ≡ done_of p
unfolding done_of
done_told Sides e = e
done_told Corners e = e
done_told Caps e = e
done_told Done e = e

-- ---- by the sections so far

picked : {A : Type 0} (x : Bool) (a b : A) → x ≡ true → elim x [ true ↦ a | false ↦ b ] ≡ a
picked x a b e = rw e

module _ (t : Vector) (y : Style) {e : Option Span} where
  module _ {p : Span} (h : e ≡ Some p) where
    pub meets_held : (s : Section) → meet_of t y e s ≡ corner_of t y p.last s
    unfolding meet_of
    meets_held s = rw h

    pub closing_held : y.closed ≡ true → closing_of t y e ≡ corner_of t y p.last p.first
    unfolding closing_of
    closing_held k = rw h (picked y.closed (corner_of t y p.last p.first) [] k)

    pub closing_open : y.closed ≡ false → closing_of t y e ≡ []
    unfolding closing_of
    closing_open k = rw (h, closing_of, k)

    pub caps_closed : y.closed ≡ true → caps_of y e ≡ []
    unfolding caps_of
    caps_closed k = rw (h, caps_of, k)

    pub caps_open : y.closed ≡ false → caps_of y e ≡ caps_both p.first p.last
    unfolding caps_of
    caps_open k = rw (h, caps_of, k)

  module _ (h : e ≡ None) where
    pub meets_none : (s : Section) → meet_of t y e s ≡ []
    unfolding meet_of
    meets_none s = rw h

    pub closing_none : closing_of t y e ≡ []
    unfolding closing_of
    closing_none = rw h

    pub caps_none : caps_of y e ≡ []
    unfolding caps_of
    caps_none = rw h

pub joins_held : {e : Option Span} {p : Span} (s : Section) → e ≡ Some p → Joins e s → Clear p.last × (centre_of p.last.b ≡ centre_of s.a)
unfolding Joins
joins_held s h k = rw h at k

pub closes_held : (y : Style) {e : Option Span} {p : Span} → e ≡ Some p → Closes y e → Clear p.first × Clear p.last × (y.closed ≡ true → centre_of p.last.b ≡ centre_of p.first.a)
unfolding Closes
closes_held y h k = rw h at k

pub capped_held : {e : Option Span} {p : Span} → e ≡ Some p → Capped e → Clear p.first × Clear p.last
unfolding Capped
capped_held h k = rw h at k

-- ---- one point on: x tells whether the points are one, s is the section

pub same_told : (a b : Vertex) {c d : Point} {x z : Bool} → c ≡ centre_of a → d ≡ centre_of b → x ≡ same_point c d → x ≡ z → same_point (centre_of a) (centre_of b) ≡ z
same_told a b e f g h = rw (e, f) at (sym g ∙ h)

module _ (a b : Vertex) (h : same_point (centre_of a) (centre_of b) ≡ true) where
  pub side_skip : side_edges a b ≡ []
  unfolding side_edges
  side_skip = rw (h, side_edges)

  pub meet_skip : (t : Vector) (y : Style) (e : Option Span) → meet_edges t y e a b ≡ []
  unfolding meet_edges
  meet_skip t y e = rw (h, meet_edges)

  reach_skip : point_after a b ≡ a
  unfolding point_after
  reach_skip = rw (h, point_after)

  span_skip : (e : Option Span) → span_after e a b ≡ e
  unfolding span_after
  span_skip e = rw (h, span_after)

module _ (a b : Vertex) (h : same_point (centre_of a) (centre_of b) ≡ false) where
  pub side_some : {s : Section} → s ≡ section_of a b → side_edges a b ≡ sides_of s
  unfolding side_edges
  side_some e = rw (h, side_edges, e)

  pub meet_some : (t : Vector) (y : Style) (e : Option Span) {s : Section} → s ≡ section_of a b → meet_edges t y e a b ≡ meet_of t y e s
  unfolding meet_edges
  meet_some t y e f = rw (h, meet_edges, f)

  reach_some : point_after a b ≡ b
  unfolding point_after
  reach_some = rw (h, point_after)

  span_some : (e : Option Span) → span_after e a b ≡ held_of e (section_of a b)
  unfolding span_after
  span_some e = rw (h, span_after)

module _ (w : Tour) (b : Vertex) where
  pub sided_skip : same_point (centre_of w.at) (centre_of b) ≡ true → record { phase = Sides; next = w.next + 1; at = w.at; span = w.span } ≡ sided_of w b
  unfolding sided_of
  sided_skip h = rw (reach_skip w.at b h)

  pub sided_some : same_point (centre_of w.at) (centre_of b) ≡ false → record { phase = Sides; next = w.next + 1; at = b; span = w.span } ≡ sided_of w b
  unfolding sided_of
  sided_some h = rw (reach_some w.at b h)

  pub met_skip : same_point (centre_of w.at) (centre_of b) ≡ true → record { phase = Corners; next = w.next + 1; at = w.at; span = w.span } ≡ met_of w b
  unfolding met_of
  met_skip h = rw (reach_skip w.at b h, span_skip w.at b h w.span)

  pub met_some : {s : Section} {e : Option Span} → same_point (centre_of w.at) (centre_of b) ≡ false → s ≡ section_of w.at b → e ≡ held_of w.span s
      → record { phase = Corners; next = w.next + 1; at = b; span = e } ≡ met_of w b
  unfolding met_of
  met_some h f g = rw (g, f, reach_some w.at b h, span_some w.at b h w.span)

pub clear_told : {y : Style} {a b : Vertex} {s : Section} → Styled y → KerbPoint y a → KerbPoint y b → same_point (centre_of a) (centre_of b) ≡ false → s ≡ section_of a b → Clear s
clear_told w h k e f = rw f (section_clear h k e w)

pub joins_told : (a b : Vertex) (e : Option Span) {s : Section} → s ≡ section_of a b → Joining a e → Joins e s
unfolding Joins Joining section_of
joins_told a b None f k = tt
joins_told a b (Some p) f k = (k.0, rw (k.1, f))

-- ---- pieces: whether there is more ahead

module _ (t : Vector) (y : Style) (v : Vertex) (w : Tour) {more : Bool} (b : Vertex) where
  module _ (h : more ≡ true) where
    pub sides_more : emits_in Sides t y (ahead_of more b) w ≡ side_edges w.at b
    unfolding emits_in ahead_of
    sides_more = rw h

    pub sided_more : next_in Sides v (ahead_of more b) w ≡ sided_of w b
    unfolding next_in ahead_of
    sided_more = rw h

    pub corners_more : emits_in Corners t y (ahead_of more b) w ≡ meet_edges t y w.span w.at b
    unfolding emits_in ahead_of
    corners_more = rw h

    pub met_more : next_in Corners v (ahead_of more b) w ≡ met_of w b
    unfolding next_in ahead_of
    met_more = rw h

  module _ (h : more ≡ false) where
    pub sides_end : emits_in Sides t y (ahead_of more b) w ≡ []
    unfolding emits_in ahead_of
    sides_end = rw h

    pub sided_end : {u : Tour} → u ≡ tour_at_corners v → u ≡ next_in Sides v (ahead_of more b) w
    unfolding next_in ahead_of
    sided_end e = rw (h, e)

    pub corners_end : emits_in Corners t y (ahead_of more b) w ≡ closing_of t y w.span
    unfolding emits_in ahead_of
    corners_end = rw h

    pub met_end : in_phase Caps w ≡ next_in Corners v (ahead_of more b) w
    unfolding next_in ahead_of
    met_end = rw h

  -- what each asks for
  pub ready_joining : Ready y v w more b → w.phase ≡ Corners → Joining w.at w.span
  unfolding KeptSpan Joining
  ready_joining r e = go w.span (rw e at r.span)
    where
      go : (x : Option Span) → KeptSpan Corners v w.at x → Joining w.at x
      go None k = tt
      go (Some p) k = (k.1, k.3)

  pub ready_closes : Ready y v w more b → w.phase ≡ Corners → more ≡ false → Closes y w.span
  unfolding KeptSpan Closes
  ready_closes r e h = go w.span (rw e at r.span)
    where
      go : (x : Option Span) → KeptSpan Corners v w.at x → Closes y x
      go None k = tt
      go (Some p) k = (k.0, k.1, λ c. ap centre_of k.3 ∙ r.home h c ∙ ap centre_of (sym k.2))

  pub ready_capped : Ready y v w more b → w.phase ≡ Caps → Capped w.span
  unfolding KeptSpan Capped
  ready_capped r e = go w.span (rw e at r.span)
    where
      go : (x : Option Span) → KeptSpan Caps v w.at x → Capped x
      go None k = tt
      go (Some p) k = (k.0, k.1)

-- the phase, as it is told
module _ (t : Vector) (y : Style) (v : Vertex) (w : Tour) (more : Bool) (b : Vertex) where
  pub emits_told : {p : Phase} → w.phase ≡ p → emits_in w.phase t y (ahead_of more b) w ≡ emits_in p t y (ahead_of more b) w
  emits_told e = ap (λ q. emits_in q t y (ahead_of more b) w) e

  pub tours_told : {p : Phase} {l₀ l₁ : List ℤ} {at : ℕ} {pen : Pen} {r : Toured} → w.phase ≡ p → t ≡ pen.step
      → Tours l₀ at pen (next_in p v (ahead_of more b) w) (emits_in p t y (ahead_of more b) w) l₁ r → Tours l₀ at pen (next_in w.phase v (ahead_of more b) w) (emits_in w.phase t y (ahead_of more b) w) l₁ r
  tours_told e f k = record { tour = k.tour ∙ sym (ap (λ q. next_in q v (ahead_of more b) w) e); made = lays_as (emits_told e) k.made }

  pub done_emits : w.phase ≡ Done → emits_in w.phase t y (ahead_of more b) w ≡ []
  unfolding emits_in
  done_emits e = rw e

  pub done_next : w.phase ≡ Done → w ≡ next_in w.phase v (ahead_of more b) w
  unfolding next_in
  done_next e = rw e

  pub caps_emits : emits_in Caps t y (ahead_of more b) w ≡ caps_of y w.span
  unfolding emits_in
  caps_emits = refl

  pub caps_next : in_phase Done w ≡ next_in Caps v (ahead_of more b) w
  unfolding next_in
  caps_next = refl
