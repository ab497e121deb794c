-- How far out the edges of a path can end: contacts and inner points lie about vertices within the limits. Assumes nothing.
use Rattle.std.specs.Prelude.{Option, Some, None}
use mathlib.Core.Path.{◌≡◌, refl}
use mathlib.Core.Bool.{Bool, true, false, ◌||◌}
use mathlib.Core.List.{List, [], ◌∷◌, ◌++◌}
use Prim.Native.Nat.{suc}
use native.Mathlib.Omega.{arith}
use lib.ListN.{length}
use Rattle.plane.specs.Directions.{UnitLong, step_of}
use Rattle.plane.proofs.Directions.{step_unit}
use Rattle.plane.specs.declared.Point.{Point}
use Rattle.plane.specs.declared.Vector.{Vector}
use Rattle.turning.specs.Bounds.{About, AllReach}
use Rattle.turning.proofs.Reach.{all_reach_none, all_reach_append, all_reach_if, edge_reach, circle_reach, arc_reach}
use Rattle.turning.specs.declared.Sweep.{Sweep}
use Rattle.contacts.specs.Limits.{allowed_of, first_outside}
use Rattle.contacts.specs.Contacts.{centre_of, kind_of, section_of}
use Rattle.contacts.specs.Covering.{covered_of}
use Rattle.joins.specs.Joins.{inner_of, arc_about, start_cap, end_cap, start_choice, end_choice, left_turns, right_turns, same_centre, left_join, right_join, gap_of, join_of}
use Rattle.variable_stroke.specs.Chains.{both_butt, lone_of, finish_last, finish_of, meet_last, drawn_of, break_end, leave_edges, leave_chain, emitted_of, next_of, start_of}
use Rattle.paths.specs.Paths.{bodies_from, bodies_at, bodies_of, joined, edges_of, EdgesReach}
use Rattle.contacts.specs.Bounds.{Inside, Around, AroundLast}
use Rattle.variable_stroke.specs.Bounds.{AroundChain, AroundWalk}
use Rattle.contacts.proofs.Allowed.{inside_of_lem}
use Rattle.contacts.proofs.Contacts.{centre_is, section_around}
use Rattle.contacts.proofs.Steps.{drawn_whole}
use Rattle.joins.proofs.CapsAndJoins.{contact_near, left_reach, right_reach, about_shared_left, about_shared_right}
use Rattle.variable_stroke.proofs.ChainSteps.{start_around, leave_around, next_around}
use Rattle.contacts.specs.declared.Vertex.{Vertex}
use Rattle.contacts.specs.declared.Section.{Section}
use Rattle.contacts.specs.declared.Kind.{Kind}
use Rattle.contacts.specs.declared.Kind.TheVariants.{Broken, Drawn, Thin}
use Rattle.joins.specs.declared.Cap.{Cap}
use Rattle.joins.specs.declared.Cap.TheVariants.{Butt, Round}
use Rattle.variable_stroke.specs.declared.Chain.{Chain}
use Rattle.variable_stroke.specs.declared.Walk.{Walk}
use Rattle.plane.specs.Vectors.{from_to}
use Rattle.turning.specs.Arcs.{ring_of}
use Rattle.turning.proofs.Rays.{ring_radius}

-- ---- from caps to steps

module _ (t : Vector) (u : UnitLong t) where
  about_reach : (v : Vertex) (p q : Point) (w : Sweep) → Inside v → About (centre_of v) p → About (centre_of v) q → AllReach (arc_about t v p q w)
  unfolding arc_about inner_of
  about_reach v p q w h k l = arc_reach t (centre_of v) (ring_of (from_to (centre_of v) p)) p q w u (centre_is h) (ring_radius k) k l

  start_reach : (s : Section) (k : Cap) → Around s → AllReach (start_cap t s k)
  unfolding start_cap
  start_reach s Butt h = edge_reach _ _ (contact_near h.a h.left_a) (contact_near h.a h.right_a)
  start_reach s Round h = about_reach s.a _ _ (start_choice s.trend) h.a h.left_a h.right_a

  end_reach : (s : Section) (k : Cap) → Around s → AllReach (end_cap t s k)
  unfolding end_cap
  end_reach s Butt h = edge_reach _ _ (contact_near h.b h.right_b) (contact_near h.b h.left_b)
  end_reach s Round h = about_reach s.b _ _ (end_choice s.trend) h.b h.right_b h.left_b

  left_join_reach : (m n : Section) → same_centre m n ≡ true → Around m → Around n → AllReach (left_join t m n)
  unfolding left_join
  left_join_reach m n e h k = all_reach_if (left_turns m n) _ _
      (λ _. about_reach n.a _ _ _ k.a k.left_a (about_shared_left n e h))
      (λ _. edge_reach _ _ (contact_near k.a k.left_a) (contact_near h.b h.left_b))

  right_join_reach : (m n : Section) → same_centre m n ≡ true → Around m → Around n → AllReach (right_join t m n)
  unfolding right_join
  right_join_reach m n e h k = all_reach_if (right_turns m n) _ _
      (λ _. about_reach m.b _ _ _ h.b h.right_b (about_shared_right m e k))
      (λ _. edge_reach _ _ (contact_near h.b h.right_b) (contact_near k.a k.right_a))

  join_reach : (m n : Section) → Around m → Around n → AllReach (join_of t m n)
  unfolding join_of gap_of
  join_reach m n h k = all_reach_if (same_centre m n) _ _
      (λ e. all_reach_append _ _ (left_join_reach m n e h k) (right_join_reach m n e h k))
      (λ _. all_reach_append _ _ (end_reach m Butt h) (start_reach n Butt k))

  finish_last_lem : (l : Option Section) (c : Chain) (k : Cap) → AroundLast l → AroundChain c → AllReach (finish_last t l c k)
  unfolding finish_last lone_of AroundLast
  finish_last_lem (Some s) c k h i = end_reach s k h
  finish_last_lem None c k h i = all_reach_if (c.mark || both_butt c.cap k) _ _ (λ _. all_reach_none) (λ _. circle_reach t _ _ u (centre_is i.start) i.start.radius)

  finish_reach : (c : Chain) (k : Cap) → AroundChain c → AllReach (finish_of t c k)
  unfolding finish_of
  finish_reach c k h = finish_last_lem c.last c k h.last h

  meet_reach : (l : Option Section) (k : Cap) (s : Section) → AroundLast l → Around s → AllReach (meet_last t l k s)
  unfolding meet_last AroundLast
  meet_reach (Some m) k s h i = join_reach m s h i
  meet_reach None k s h i = start_reach s k i

  drawn_reach : (c : Chain) (s : Section) → AroundChain c → Around s → AllReach (drawn_of t c s)
  unfolding drawn_of
  drawn_reach c s h k =
      let l = left_reach k in
      let r = right_reach k in
      all_reach_append _ _ (edge_reach _ _ l.b l.a) (all_reach_append _ _ (edge_reach _ _ r.a r.b) (meet_reach c.last c.cap s h.last k))

  leave_reach : (w : Walk) (b : Vertex) → AroundWalk w → AllReach (leave_edges t w b)
  unfolding leave_edges
  leave_reach w b h = all_reach_if (covered_of w.previous b) _ _ (λ _. finish_reach w.chain Round h.chain) (λ _. all_reach_none)

  emitted_reach : (w : Walk) (b : Vertex) → AroundWalk w → Inside b → AllReach (emitted_of t w b)
  unfolding emitted_of
  emitted_reach w b h i = go (kind_of w.at b) refl
    where
      go : (k : Kind) → kind_of w.at b ≡ k
          → AllReach (elim k [ Broken ↦ finish_of t w.chain (break_end w.at b) | Drawn ↦ leave_edges t w b ++ drawn_of t (leave_chain w b) (section_of w.at b) | Thin ↦ leave_edges t w b ])
      go Broken e = finish_reach w.chain (break_end w.at b) h.chain
      go Drawn e = all_reach_append _ _ (leave_reach w b h) (drawn_reach (leave_chain w b) (section_of w.at b) (leave_around w b h refl) (section_around h.at i (drawn_whole w.at b e)))
      go Thin e = leave_reach w b h

  -- ---- a path

  inside_first : (v : Vertex) (vs : List Vertex) → first_outside (v ∷ vs) ≡ suc (length vs) → Inside v × (first_outside vs ≡ length vs)
  unfolding first_outside
  inside_first v vs h = go (allowed_of v) refl h
    where
      go : (x : Bool) → allowed_of v ≡ x → elim x [ true ↦ suc (first_outside vs) | false ↦ 0 ] ≡ suc (length vs) → Inside v × (first_outside vs ≡ length vs)
      go true e k = (inside_of_lem e, omega arith)
      go false e k = absurd (omega arith)

  from_reach : (w : Walk) (bs : List Vertex) → AroundWalk w → first_outside bs ≡ length bs → AllReach (joined (bodies_from t w bs))
  unfolding bodies_from joined
  from_reach w [] h e = all_reach_append _ _ (finish_reach w.chain w.closing h.chain) all_reach_none
  from_reach w (b ∷ bs) h e =
      let i = inside_first b bs e in
      all_reach_append _ _ (emitted_reach w b h i.0) (from_reach (next_of w b) bs (next_around w b (λ f. section_around h.at i.0 f) h i.0) i.1)

  at_reach : (vs : List Vertex) → first_outside vs ≡ length vs → AllReach (joined (bodies_at t vs))
  unfolding bodies_at joined
  at_reach [] e = all_reach_none
  at_reach (v ∷ vs) e = let i = inside_first v vs e in from_reach (start_of v) vs (start_around v i.0) i.1

pub edges_reach : EdgesReach
unfolding edges_of bodies_of
edges_reach g vs e = at_reach (step_of g) (step_unit g refl) vs e
