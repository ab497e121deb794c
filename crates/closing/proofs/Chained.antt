-- The edges of chains: what a chain has emitted leads from its last section's left contact to its right one, and its end closes it. Assumes nothing.
use Rattle.std.specs.Prelude.{Option, Some, None}
use mathlib.Core.Path.{◌≡◌}
use mathlib.Core.Bool.{Bool, true, false, ◌&&◌, ◌||◌}
use mathlib.Core.List.{List, [], ◌++◌}
use Prim.Native.Nat.{◌+◌}
use native.Mathlib.Omega.{arith}
use Rattle.plane.specs.declared.Point.{Point}
use Rattle.plane.specs.declared.Vector.{Vector}
use Rattle.turning.specs.Edges.{edge_of}
use Rattle.turning.specs.Arcs.{arc_of, circle_of}
use Rattle.turning.specs.declared.Edge.{Edge}
use Rattle.turning.specs.declared.Sweep.TheVariants.{Minor, Major}
use Rattle.contacts.specs.Contacts.{centre_of}
use Rattle.joins.specs.Joins.{inner_of, arc_about, start_choice, start_cap, end_choice, end_cap, left_turns, left_join, right_turns, right_join, same_centre, gap_of, join_of}
use Rattle.variable_stroke.specs.Chains.{both_butt, lone_of, finish_last, finish_of, meet_last, drawn_of}
use Rattle.contacts.specs.declared.Section.{Section}
use Rattle.joins.specs.declared.Cap.{Cap}
use Rattle.joins.specs.declared.Cap.TheVariants.{Butt, Round}
use Rattle.variable_stroke.specs.declared.Chain.{Chain}
use Rattle.turning.proofs.Rays.{neither}
use Rattle.closing.specs.Closing.{here_of, starts_at, ends_at, Balanced, one_at_centre, left_stray, right_stray, stray_join, stray_meet}
use Rattle.closing.proofs.Carried.{Carries, starts_append, ends-append, edge_carries, arc_carries, circle_carries, balanced_none, balanced}

-- a section no cap of which has one end at the centre and one elsewhere
pub record Even (s : Section) : Type 0 where
  pub a : one_at_centre (centre_of s.a) s.left.a s.right.a ≡ false
  pub b : one_at_centre (centre_of s.b) s.right.b s.left.b ≡ false

unfoldable pub EvenLast : Option Section → Type 0
EvenLast None = Unit {0}
EvenLast (Some s) = Even s

pub start_carries : (t : Vector) (s : Section) (k : Cap) → Even s → Carries s.left.a s.right.a (start_cap t s k)
unfolding start_cap arc_about
start_carries t s Butt h = edge_carries s.left.a s.right.a
start_carries t s Round h = arc_carries t (centre_of s.a) (inner_of s.a s.left.a) s.left.a s.right.a (start_choice s.trend) h.a

pub end_carries : (t : Vector) (s : Section) (k : Cap) → Even s → Carries s.right.b s.left.b (end_cap t s k)
unfolding end_cap arc_about
end_carries t s Butt h = edge_carries s.right.b s.left.b
end_carries t s Round h = arc_carries t (centre_of s.b) (inner_of s.b s.right.b) s.right.b s.left.b (end_choice s.trend) h.b

-- ---- joins

left_carries : (t : Vector) (prev next : Section) → left_stray prev next ≡ false → Carries next.left.a prev.left.b (left_join t prev next)
unfolding left_join left_stray arc_about
left_carries t prev next h = go (left_turns prev next) h
  where
    go : (x : Bool) → (x && one_at_centre (centre_of next.a) next.left.a prev.left.b) ≡ false
        → Carries next.left.a prev.left.b (elim x [ true ↦ arc_of t (centre_of next.a) (inner_of next.a next.left.a) next.left.a prev.left.b Minor | false ↦ edge_of next.left.a prev.left.b ])
    go true k = arc_carries t (centre_of next.a) (inner_of next.a next.left.a) next.left.a prev.left.b Minor k
    go false k = edge_carries next.left.a prev.left.b

right_carries : (t : Vector) (prev next : Section) → right_stray prev next ≡ false → Carries prev.right.b next.right.a (right_join t prev next)
unfolding right_join right_stray arc_about
right_carries t prev next h = go (right_turns prev next) h
  where
    go : (x : Bool) → (x && one_at_centre (centre_of prev.b) prev.right.b next.right.a) ≡ false
        → Carries prev.right.b next.right.a (elim x [ true ↦ arc_of t (centre_of prev.b) (inner_of prev.b prev.right.b) prev.right.b next.right.a Major | false ↦ edge_of prev.right.b next.right.a ])
    go true k = arc_carries t (centre_of prev.b) (inner_of prev.b prev.right.b) prev.right.b next.right.a Major k
    go false k = edge_carries prev.right.b next.right.a

-- what a join's edges come to, whether its centres differ or not
pub record Connects (prev next : Section) (es : List Edge) : Type 0 where
  pub connects : (x : Point) → starts_at x es + here_of x prev.left.b + here_of x next.right.a ≡ ends_at x es + here_of x next.left.a + here_of x prev.right.b

pub join_carries : (t : Vector) (prev next : Section) → Even prev → Even next → stray_join prev next ≡ false → Connects prev next (join_of t prev next)
unfolding join_of stray_join gap_of
join_carries t prev next hp hn h = go (same_centre prev next) h
  where
    gap : Connects prev next (end_cap t prev Butt ++ start_cap t next Butt)
    gap =
        let k = end_carries t prev Butt hp in
        let l = start_carries t next Butt hn in
        record { connects = λ x. omega (arith, k.carry x, l.carry x, starts_append x (end_cap t prev Butt) (start_cap t next Butt), ends-append x (end_cap t prev Butt) (start_cap t next Butt)) }

    sides : (left_stray prev next || right_stray prev next) ≡ false → Connects prev next (left_join t prev next ++ right_join t prev next)
    sides e =
        let n = neither (left_stray prev next) (right_stray prev next) e in
        let k = left_carries t prev next n.0 in
        let l = right_carries t prev next n.1 in
        record { connects = λ x. omega (arith, k.carry x, l.carry x, starts_append x (left_join t prev next) (right_join t prev next), ends-append x (left_join t prev next) (right_join t prev next)) }

    go : (x : Bool) → (x && (left_stray prev next || right_stray prev next)) ≡ false
        → Connects prev next (elim x [ true ↦ left_join t prev next ++ right_join t prev next | false ↦ end_cap t prev Butt ++ start_cap t next Butt ])
    go true e = sides e
    go false e = gap

-- ---- chains

-- what a chain with that last section has emitted, and what ends it
unfoldable pub Opens : Option Section → List Edge → Type 0
Opens None es = Balanced es
Opens (Some s) es = Carries s.left.b s.right.b es

unfoldable pub Shuts : Option Section → List Edge → Type 0
Shuts None es = Balanced es
Shuts (Some s) es = Carries s.right.b s.left.b es

pub opens_shut : (l : Option Section) (es fs : List Edge) → Opens l es → Shuts l fs → Balanced (es ++ fs)
unfolding Opens Shuts
opens_shut None es fs h k = record { balance = λ x. omega (arith, h.balance x, k.balance x, starts_append x es fs, ends-append x es fs) }
opens_shut (Some s) es fs h k = record { balance = λ x. omega (arith, h.carry x, k.carry x, starts_append x es fs, ends-append x es fs) }

lone_balanced : (t : Vector) (c : Chain) (k : Cap) → Balanced (lone_of t c k)
unfolding lone_of
lone_balanced t c k = go (c.mark || both_butt c.cap k)
  where
    go : (x : Bool) → Balanced (elim x [ true ↦ [] | false ↦ circle_of t (centre_of c.start) c.start.radius ])
    go true = balanced_none
    go false = balanced (circle_carries t (centre_of c.start) c.start.radius)

finish_last_lem : (t : Vector) (l : Option Section) (c : Chain) (k : Cap) → EvenLast l → Shuts l (finish_last t l c k)
unfolding finish_last Shuts EvenLast
finish_last_lem t None c k h = lone_balanced t c k
finish_last_lem t (Some s) c k h = end_carries t s k h

pub finish_shuts : (t : Vector) (c : Chain) (k : Cap) → EvenLast c.last → Shuts c.last (finish_of t c k)
unfolding finish_of
finish_shuts t c k h = finish_last_lem t c.last c k h

-- a drawn step: the edges so far and its own lead from the new section's left contact to its right one
meet_opens : (t : Vector) (l : Option Section) (k : Cap) (s : Section) (es : List Edge) → EvenLast l → Even s → stray_meet l s ≡ false → Opens l es
    → Carries s.left.b s.right.b (es ++ (edge_of s.left.b s.left.a ++ (edge_of s.right.a s.right.b ++ meet_last t l k s)))
unfolding meet_last Opens EvenLast stray_meet
meet_opens t None k s es hl hs hm h =
    let left = edge_of s.left.b s.left.a in
    let right = edge_of s.right.a s.right.b in
    let cap = start_cap t s k in
    record {
      carry = λ x. omega (
        arith,
        h.balance x,
        (edge_carries s.left.b s.left.a).carry x,
        (edge_carries s.right.a s.right.b).carry x,
        (start_carries t s k hs).carry x,
        starts_append x es (left ++ (right ++ cap)),
        starts_append x left (right ++ cap),
        starts_append x right cap,
        ends-append x es (left ++ (right ++ cap)),
        ends-append x left (right ++ cap),
        ends-append x right cap,
      );
    }
meet_opens t (Some prev) k s es hl hs hm h =
    let left = edge_of s.left.b s.left.a in
    let right = edge_of s.right.a s.right.b in
    let join = join_of t prev s in
    record {
      carry = λ x. omega (
        arith,
        h.carry x,
        (edge_carries s.left.b s.left.a).carry x,
        (edge_carries s.right.a s.right.b).carry x,
        (join_carries t prev s hl hs hm).connects x,
        starts_append x es (left ++ (right ++ join)),
        starts_append x left (right ++ join),
        starts_append x right join,
        ends-append x es (left ++ (right ++ join)),
        ends-append x left (right ++ join),
        ends-append x right join,
      );
    }

pub drawn_opens : (t : Vector) (c : Chain) (s : Section) (es : List Edge) → EvenLast c.last → Even s → stray_meet c.last s ≡ false → Opens c.last es
    → Opens (Some s) (es ++ drawn_of t c s)
unfolding drawn_of Opens
drawn_opens t c s es hl hs hm h = meet_opens t c.last c.cap s es hl hs hm h
