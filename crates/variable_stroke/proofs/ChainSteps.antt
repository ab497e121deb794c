-- One law for each case of a chain's or a walk's step, with what the code has computed as variables and equations. Assumes nothing.
use Rattle.std.specs.Prelude.{Option, Some, None}
use mathlib.Core.Path.{◌≡◌, refl, sym, ◌∙◌}
use mathlib.Core.Bool.{Bool, true, false, ◌||◌}
use mathlib.Core.List.{List, [], ◌++◌}
use Prim.Native.Nat.{ℕ, ◌^◌, ◌<◌}
use denote.Enum.Bare.{sameb}
use lib.IntN.{ℤ}
use lib.Signed.{le_z, mag}
use Rattle.plane.proofs.Products.{bits, back}
use Rattle.plane.specs.declared.Point.{Point}
use Rattle.plane.specs.declared.Vector.{Vector}
use Rattle.turning.specs.Edges.{edge_of}
use Rattle.folds.specs.declared.Pen.{Pen}
use Rattle.folds.proofs.Laid.{lays_none, lays_as, lays_then, lays_to}
use Rattle.turning.specs.Arcs.{circle_of}
use Rattle.contacts.specs.Contacts.{centre_of, broken_of, kind_of, section_of}
use Rattle.contacts.specs.Covering.{covered_of}
use Rattle.joins.specs.Joins.{start_cap, end_cap, join_of}
use Rattle.variable_stroke.specs.Chains.{fresh_of, both_butt, lone_of, finish_last, finish_of, meet_last, drawn_of, break_end, break_start, leave_edges, leave_chain, leave_closing, marked_of, emitted_of, next_chain, next_last, next_closing, next_of, start_of}
use Rattle.contacts.specs.Bounds.{Inside, Around, AroundLast}
use Rattle.variable_stroke.specs.Bounds.{AroundChain, AroundWalk}
use Rattle.variable_stroke.specs.Steps.{Finishes, Starts, Extends, Marks, Leaves, Strides}
use Rattle.contacts.proofs.Steps.{drawn_whole}
use Rattle.contacts.specs.declared.Vertex.{Vertex}
use Rattle.contacts.specs.declared.Section.{Section}
use Rattle.contacts.specs.declared.Kind.{Kind}
use Rattle.contacts.specs.declared.Kind.TheVariants.{Broken, Drawn, Thin}
use Rattle.joins.specs.contracts.Cap.{the_type}
use Rattle.joins.specs.declared.Cap.{Cap}
use Rattle.joins.specs.declared.Cap.TheVariants.{Butt, Round}
use Rattle.variable_stroke.specs.declared.Chain.{Chain}
use Rattle.variable_stroke.specs.declared.Walk.{Walk}
use Rattle.variable_stroke.specs.declared.builder.Stepped.{Stepped}
use Rattle.variable_stroke.specs.declared.builder.Left.{Left}

-- ---- both caps

pub first_round : (k j : Cap) {x : Bool} → x ≡ sameb the_type k Butt → x ≡ false → x ≡ both_butt k j
unfolding both_butt
first_round Butt j e f = cc
first_round Round j e f = f

pub first_butt : (k j : Cap) {x y : Bool} → x ≡ sameb the_type k Butt → x ≡ true → y ≡ sameb the_type j Butt → y ≡ both_butt k j
unfolding both_butt
first_butt Butt Butt e f g = g
first_butt Butt Round e f g = g
first_butt Round j e f g = cc

-- ---- the end of a chain

module _ (t : Vector) (c : Chain) (k : Cap) where
  pub lone_not : {x : Bool} → x ≡ (c.mark || both_butt c.cap k) → x ≡ true → lone_of t c k ≡ []
  unfolding lone_of
  lone_not e f = rw (sym e ∙ f, lone_of)

  pub lone_circle : {x : Bool} {p : Point} → mag c.start.radius < 2 ^ 63 → x ≡ (c.mark || both_butt c.cap k) → x ≡ false → p ≡ centre_of c.start
      → lone_of t c k ≡ circle_of t p (bits c.start.radius)
  unfolding lone_of
  lone_circle m e f h =
      let b : bits c.start.radius ≡ c.start.radius = back (record { sfits = m }) in
      rw (sym e ∙ f, h, b, lone_of)

  pub finish_held : {s : Section} → c.last ≡ Some s → finish_of t c k ≡ end_cap t s k
  unfolding finish_of finish_last
  finish_held e = rw e

  pub finish_none : c.last ≡ None → finish_of t c k ≡ lone_of t c k
  unfolding finish_of finish_last
  finish_none e = rw e

pub held_around : {s : Section} (l : Option Section) → l ≡ Some s → AroundLast l → Around s
unfolding AroundLast
held_around l e h = rw e at h

-- ---- a drawn step

pub meet_held : (t : Vector) (l : Option Section) (k : Cap) (s : Section) {prev : Section} → l ≡ Some prev → meet_last t l k s ≡ join_of t prev s
unfolding meet_last
meet_held t l k s e = rw e

pub meet_none : (t : Vector) (l : Option Section) (k : Cap) (s : Section) → l ≡ None → meet_last t l k s ≡ start_cap t s k
unfolding meet_last
meet_none t l k s e = rw e

pub drawn_is : (t : Vector) (c : Chain) (s : Section) → drawn_of t c s ≡ edge_of s.left.b s.left.a ++ (edge_of s.right.a s.right.b ++ meet_last t c.last c.cap s)
unfolding drawn_of
drawn_is t c s = refl

pub marked_is : (c : Chain) (l : Option Section) → record { start = c.start; cap = c.cap; last = l; mark = true } ≡ marked_of c l
unfolding marked_of
marked_is c l = refl

-- ---- a broken step

module _ (a b : Vertex) (h : mag a.radius < 2 ^ 63) (k : mag b.radius < 2 ^ 63) where
  order : {x : Bool} → le_z (bits b.radius) (bits a.radius) ≡ x → le_z b.radius a.radius ≡ x
  order e = rw (back (record { sfits = k }), back (record { sfits = h })) at e

  pub end_smaller : le_z (bits b.radius) (bits a.radius) ≡ true → Round ≡ break_end a b
  unfolding break_end
  end_smaller e = rw (order e, break_end)

  pub end_larger : le_z (bits b.radius) (bits a.radius) ≡ false → Butt ≡ break_end a b
  unfolding break_end
  end_larger e = rw (order e, break_end)

  pub start_smaller : le_z (bits b.radius) (bits a.radius) ≡ true → Butt ≡ break_start a b
  unfolding break_start
  start_smaller e = rw (order e, break_start)

  pub start_larger : le_z (bits b.radius) (bits a.radius) ≡ false → Round ≡ break_start a b
  unfolding break_start
  start_larger e = rw (order e, break_start)

pub emitted_broken : (t : Vector) (w : Walk) (b : Vertex) {k : Cap} → kind_of w.at b ≡ Broken → k ≡ break_end w.at b → emitted_of t w b ≡ finish_of t w.chain k
unfolding emitted_of
emitted_broken t w b e f = rw (f, e, emitted_of)

pub walk_broken : {l₀ l₁ : List ℤ} {at : ℕ} (pen : Pen) (w : Walk) (b : Vertex) {i j : Cap} {f g : Stepped} → kind_of w.at b ≡ Broken
    → i ≡ break_end w.at b → j ≡ break_start w.at b → Finishes l₀ at pen w.chain i l₁ f → Starts f.at b j g
    → Strides l₀ at pen w b l₁ (record { walk = record { at = b; chain = g.chain; previous = None; closing = Round }; at = g.at })
unfolding next_of next_chain next_last next_closing
walk_broken pen w b {i} {j} e ei ej p q = record {
  walk = rw (q.chain, ej, e);
  made = lays_to q.at (lays_as (emitted_broken pen.step w b e ei) p.made);
}

-- ---- leaving a chain where b is covered

pub leave_finishes : (t : Vector) (w : Walk) (b : Vertex) {x : Bool} → x ≡ covered_of w.previous b → x ≡ true → leave_edges t w b ≡ finish_of t w.chain Round
unfolding leave_edges
leave_finishes t w b e f = let k : covered_of w.previous b ≡ true = sym e ∙ f in rw (k, leave_edges)

pub leave_yes : {l₀ l₁ : List ℤ} {at : ℕ} (pen : Pen) (w : Walk) (b : Vertex) {x : Bool} {f g : Stepped} → x ≡ covered_of w.previous b → x ≡ true
    → Finishes l₀ at pen w.chain Round l₁ f → Starts f.at w.at Butt g → Leaves l₀ at pen w b l₁ (record { chain = g.chain; closing = Butt; at = g.at })
unfolding leave_chain leave_closing
leave_yes pen w b e h p q =
    let k : covered_of w.previous b ≡ true = sym e ∙ h in
    record { chain = rw (k, leave_chain) q.chain; closing = rw (k, leave_closing); made = lays_to q.at (lays_as (leave_finishes pen.step w b e h) p.made) }

pub leave_no : {l : List ℤ} {at : ℕ} (pen : Pen) (w : Walk) (b : Vertex) {x : Bool} → x ≡ covered_of w.previous b → x ≡ false
    → Leaves l at pen w b l (record { chain = w.chain; closing = Round; at = at })
unfolding leave_edges leave_chain leave_closing
leave_no pen w b e f =
    let k : covered_of w.previous b ≡ false = sym e ∙ f in
    record { chain = rw (k, leave_chain); closing = rw (k, leave_closing); made = rw (k, leave_edges) lays_none }

-- ---- the steps that are not broken

pub emitted_drawn : (t : Vector) (w : Walk) (b : Vertex) {c : Chain} {s : Section} → kind_of w.at b ≡ Drawn → c ≡ leave_chain w b → s ≡ section_of w.at b
    → emitted_of t w b ≡ leave_edges t w b ++ drawn_of t c s
unfolding emitted_of
emitted_drawn t w b e f g = rw (f, g, e, emitted_of)

pub emitted_thin : (t : Vector) (w : Walk) (b : Vertex) → kind_of w.at b ≡ Thin → emitted_of t w b ≡ leave_edges t w b
unfolding emitted_of
emitted_thin t w b e = rw (e, emitted_of)

pub walk_drawn : {l₀ l₁ l₂ : List ℤ} {at : ℕ} (pen : Pen) (w : Walk) (b : Vertex) {s : Section} {r : Left} {g : Stepped} → kind_of w.at b ≡ Drawn
    → Leaves l₀ at pen w b l₁ r → s ≡ section_of w.at b → Extends l₁ r.at pen r.chain s l₂ g
    → Strides l₀ at pen w b l₂ (record { walk = record { at = b; chain = g.chain; previous = Some s; closing = r.closing }; at = g.at })
unfolding next_of next_chain next_last next_closing
walk_drawn pen w b {s} {r} {g} e l f d = record {
  walk = rw (d.chain, l.chain, l.closing, f, e);
  made = lays_as (emitted_drawn pen.step w b e l.chain f) (lays_then l.made d.made);
}

pub walk_thin : {l₀ l₁ : List ℤ} {at : ℕ} (pen : Pen) (w : Walk) (b : Vertex) {r : Left} {g : Stepped} → kind_of w.at b ≡ Thin → Leaves l₀ at pen w b l₁ r
    → Marks r.at r.chain g → Strides l₀ at pen w b l₁ (record { walk = record { at = b; chain = g.chain; previous = None; closing = r.closing }; at = g.at })
unfolding next_of next_chain next_last next_closing
walk_thin pen w b e l p = record {
  walk = rw (p.chain, l.chain, l.closing, e);
  made = lays_to p.at (lays_as (emitted_thin pen.step w b e) l.made);
}

-- ---- what the limits leave of chains

pub fresh_around : (v : Vertex) (k : Cap) → Inside v → AroundChain (fresh_of v k)
unfolding fresh_of AroundLast
fresh_around v k h = record { start = h; last = tt }

pub start_around : (v : Vertex) → Inside v → AroundWalk (start_of v)
unfolding start_of AroundLast
start_around v h = record { at = h; chain = fresh_around v Round h; previous = tt }

pub leave_around : (w : Walk) (b : Vertex) {c : Chain} → AroundWalk w → c ≡ leave_chain w b → AroundChain c
unfolding leave_chain
leave_around w b h e = rw e (go (covered_of w.previous b))
  where
    go : (x : Bool) → AroundChain (elim x [ true ↦ fresh_of w.at Butt | false ↦ w.chain ])
    go true = fresh_around w.at Butt h.at
    go false = h.chain

marked_around : (c : Chain) (l : Option Section) → AroundChain c → AroundLast l → AroundChain (marked_of c l)
unfolding marked_of
marked_around c l h k = record { start = h.start; last = k }

-- the walk stays within them, where sections do
pub next_around : (w : Walk) (b : Vertex) → (broken_of w.at b ≡ false → Around (section_of w.at b)) → AroundWalk w → Inside b → AroundWalk (next_of w b)
unfolding next_of next_chain next_last AroundLast
next_around w b f h i = go (kind_of w.at b) refl
  where
    go : (k : Kind) → kind_of w.at b ≡ k → AroundWalk (record { at = b; chain = next_chain k w b; previous = next_last k w.at b; closing = next_closing k w.previous b })
    go Broken e = record { at = i; chain = fresh_around b (break_start w.at b) i; previous = tt }
    go Drawn e =
        let s = f (drawn_whole w.at b e) in
        record { at = i; chain = marked_around (leave_chain w b) (Some (section_of w.at b)) (leave_around w b h refl) s; previous = s }
    go Thin e = record { at = i; chain = marked_around (leave_chain w b) (leave_chain w b).last (leave_around w b h refl) (leave_around w b h refl).last; previous = tt }
