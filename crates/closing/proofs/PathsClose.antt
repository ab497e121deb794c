-- A path's boundary closes: each step leaves the chain open between the two contacts that the next step or the end leads on from. Assumes nothing.
use Rattle.std.specs.Prelude.{Some}
use mathlib.Core.Path.{◌≡◌, refl}
use mathlib.Core.Bool.{Bool, true, false}
use mathlib.Core.List.{List, [], ◌∷◌, ◌++◌, append-nil, append_assoc}
use Prim.Native.Nat.{◌+◌}
use lib.ListN.{length}
use Rattle.plane.specs.Directions.{step_of}
use Rattle.plane.specs.declared.Vector.{Vector}
use Rattle.turning.specs.declared.Edge.{Edge}
use Rattle.contacts.specs.Limits.{allowed_of, first_outside}
use Rattle.contacts.specs.Contacts.{kind_of, section_of}
use Rattle.contacts.specs.Covering.{covered_of}
use Rattle.variable_stroke.specs.Chains.{fresh_of, finish_of, drawn_of, break_end, break_start, leave_edges, leave_chain, marked_of, emitted_of, next_chain, next_of, start_of}
use Rattle.paths.specs.Paths.{bodies_from, bodies_at, bodies_of, joined, edges_of}
use Rattle.contacts.specs.Bounds.{Inside}
use Rattle.contacts.specs.declared.Vertex.{Vertex}
use Rattle.joins.specs.declared.Cap.{Cap}
use Rattle.joins.specs.declared.Cap.TheVariants.{Butt, Round}
use Rattle.contacts.specs.declared.Kind.{Kind}
use Rattle.contacts.specs.declared.Kind.TheVariants.{Broken, Drawn, Thin}
use Rattle.variable_stroke.specs.declared.Chain.{Chain}
use Rattle.variable_stroke.specs.declared.Walk.{Walk}
use Rattle.contacts.proofs.Allowed.{inside_of_lem, inside_first}
use Rattle.contacts.proofs.Steps.{drawn_whole}
use Rattle.turning.proofs.Rays.{neither}
use Rattle.closing.specs.Closing.{Balanced, stray_meet, stray_step, stray_from, stray_of, BoundaryCloses}
use Rattle.closing.proofs.Carried.{balanced_none}
use Rattle.closing.proofs.Chained.{EvenLast, Opens, opens_shut, finish_shuts, drawn_opens}
use Rattle.closing.proofs.EvenCaps.{section_even}

-- a walk between two steps, and the edges so far
pub record OpenWalk (w : Walk) (es : List Edge) : Type 0 where
  pub at : Inside w.at
  pub even : EvenLast w.chain.last
  pub opens : Opens w.chain.last es

-- ---- a chain that a covered vertex may have ended

pub record OpenChain (c : Chain) (es : List Edge) : Type 0 where
  pub even : EvenLast c.last
  pub opens : Opens c.last es

fresh : (t : Vector) (w : Walk) (v : Vertex) (k j : Cap) (es : List Edge) → OpenWalk w es → OpenChain (fresh_of v k) (es ++ finish_of t w.chain j)
unfolding fresh_of EvenLast Opens
fresh t w v k j es h = record { even = tt; opens = opens_shut w.chain.last es (finish_of t w.chain j) h.opens (finish_shuts t w.chain j h.even) }

leaves : (t : Vector) (w : Walk) (b : Vertex) (es : List Edge) → OpenWalk w es → OpenChain (leave_chain w b) (es ++ leave_edges t w b)
unfolding leave_chain leave_edges
leaves t w b es h = go (covered_of w.previous b)
  where
    go : (x : Bool) → OpenChain (elim x [ true ↦ fresh_of w.at Butt | false ↦ w.chain ]) (es ++ (elim x [ true ↦ finish_of t w.chain Round | false ↦ [] ]))
    go true = fresh t w w.at Butt Round es h
    go false = record { even = h.even; opens = rw (append-nil es) h.opens }

-- ---- a step

drawn_left : (t : Vector) (w : Walk) (b : Vertex) (es : List Edge) → Inside b → OpenWalk w es → kind_of w.at b ≡ Drawn → stray_meet (leave_chain w b).last (section_of w.at b) ≡ false
    → OpenChain (marked_of (leave_chain w b) (Some (section_of w.at b))) (es ++ (leave_edges t w b ++ drawn_of t (leave_chain w b) (section_of w.at b)))
unfolding marked_of EvenLast
drawn_left t w b es hb h e f =
    let l = leaves t w b es h in
    let s = section_even w.at b h.at hb (drawn_whole w.at b e) in
    record { even = s; opens = rw (append_assoc es (leave_edges t w b) (drawn_of t (leave_chain w b) (section_of w.at b))) at (drawn_opens t (leave_chain w b) (section_of w.at b) (es ++ leave_edges t w b) l.even s f l.opens) }

thin_left : (t : Vector) (w : Walk) (b : Vertex) (es : List Edge) → OpenWalk w es → OpenChain (marked_of (leave_chain w b) (leave_chain w b).last) (es ++ leave_edges t w b)
unfolding marked_of
thin_left t w b es h = let l = leaves t w b es h in record { even = l.even; opens = l.opens }

walk_next : (t : Vector) (w : Walk) (b : Vertex) (es : List Edge) → Inside b → OpenWalk w es → stray_step w b ≡ false → OpenWalk (next_of w b) (es ++ emitted_of t w b)
unfolding next_of emitted_of stray_step next_chain
walk_next t w b es hb h f = let l = go (kind_of w.at b) refl f in record { at = hb; even = l.even; opens = l.opens }
  where
    go : (k : Kind) → kind_of w.at b ≡ k → (elim k [ Broken ↦ false | Drawn ↦ stray_meet (leave_chain w b).last (section_of w.at b) | Thin ↦ false ]) ≡ false
        → OpenChain (next_chain k w b) (es ++ (elim k [ Broken ↦ finish_of t w.chain (break_end w.at b) | Drawn ↦ leave_edges t w b ++ drawn_of t (leave_chain w b) (section_of w.at b) | Thin ↦ leave_edges t w b ]))
    go Broken e x = fresh t w b (break_start w.at b) (break_end w.at b) es h
    go Drawn e x = drawn_left t w b es hb h e x
    go Thin e x = thin_left t w b es h

-- ---- a path

rest_closes : (t : Vector) (w : Walk) (bs : List Vertex) (es : List Edge) → first_outside bs ≡ length bs → OpenWalk w es → stray_from w bs ≡ false → Balanced (es ++ joined (bodies_from t w bs))
unfolding bodies_from joined stray_from
rest_closes t w [] es i h f =
    rw (append-nil (finish_of t w.chain w.closing)) (opens_shut w.chain.last es (finish_of t w.chain w.closing) h.opens (finish_shuts t w.chain w.closing h.even))
rest_closes t w (b ∷ bs) es i h f =
    let n = neither (stray_step w b) (stray_from (next_of w b) bs) f in
    let k = inside_first b bs i in
    rw (append_assoc es (emitted_of t w b) (joined (bodies_from t (next_of w b) bs))) at
    (rest_closes t (next_of w b) bs (es ++ emitted_of t w b) k.1 (walk_next t w b es (inside_of_lem k.0) h n.0) n.1)

starts : (v : Vertex) → allowed_of v ≡ true → OpenWalk (start_of v) []
unfolding start_of fresh_of EvenLast Opens
starts v e = record { at = inside_of_lem e; even = tt; opens = balanced_none }

pub boundary_closes : BoundaryCloses
unfolding edges_of bodies_of bodies_at joined stray_of
boundary_closes g [] i f = balanced_none
boundary_closes g (v ∷ vs) i f = let k = inside_first v vs i in rest_closes (step_of g) (start_of v) vs [] k.1 (starts v k.0) f
