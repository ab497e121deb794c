-- How many edges each rule can give, from the most that an arc has: of a step twice as many and two. Assumes nothing.
use Rattle.std.specs.Prelude.{Option, Some, None}
use mathlib.Core.Bool.{Bool, true, false, ◌||◌}
use mathlib.Core.List.{List, [], ◌∷◌, ◌++◌}
use Prim.Native.Nat.{ℕ, ◌+◌, ◌*◌, ◌≤◌}
use native.Mathlib.Nat.{mul-suc}
use native.Mathlib.Omega.{arith}
use lib.IntN.{ℤ}
use lib.ListN.{length}
use Rattle.plane.specs.declared.Point.{Point}
use Rattle.plane.specs.declared.Vector.{Vector}
use Rattle.turning.specs.Arcs.{circle_of, arc_of}
use Rattle.turning.specs.Bounds.{Most}
use Rattle.turning.proofs.Most.{most_none, most_up, most_both, most_if, edge_most}
use Rattle.turning.specs.declared.Edge.{Edge}
use Rattle.turning.specs.declared.Sweep.{Sweep}
use Rattle.contacts.specs.Contacts.{centre_of, kind_of}
use Rattle.contacts.specs.Covering.{covered_of}
use Rattle.joins.specs.Joins.{inner_of, arc_about, start_cap, end_cap, start_choice, end_choice, left_turns, right_turns, same_centre, left_join, right_join, gap_of, join_of}
use Rattle.variable_stroke.specs.Chains.{fresh_of, both_butt, lone_of, finish_last, finish_of, meet_last, drawn_of, leave_edges, leave_chain, emitted_of, next_of, start_of}
use Rattle.paths.specs.Paths.{bodies_from, bodies_at, joined}
use Rattle.contacts.specs.declared.Vertex.{Vertex}
use Rattle.contacts.specs.declared.Section.{Section}
use Rattle.contacts.specs.declared.Kind.{Kind}
use Rattle.contacts.specs.declared.Kind.TheVariants.{Broken, Drawn, Thin}
use Rattle.joins.specs.declared.Cap.{Cap}
use Rattle.joins.specs.declared.Cap.TheVariants.{Butt, Round}
use Rattle.variable_stroke.specs.declared.Chain.{Chain}
use Rattle.variable_stroke.specs.declared.Walk.{Walk}

most_kind : {n : ℕ} (k : Kind) {x y z : List Edge} → Most n x → Most n y → Most n z → Most n (elim k [ Broken ↦ x | Drawn ↦ y | Thin ↦ z ])
most_kind Broken h i j = h
most_kind Drawn h i j = i
most_kind Thin h i j = j

-- by steps of t, circles and arcs have at most a edges
module _ (t : Vector) (a : ℕ) (low : 1 ≤ a) (circles : (c : Point) (r : ℤ) → Most a (circle_of t c r)) (arcs : (c : Point) (r : ℤ) (p q : Point) (choice : Sweep) → Most a (arc_of t c r p q choice)) where
  about_by : (v : Vertex) (p q : Point) (choice : Sweep) → Most a (arc_about t v p q choice)
  unfolding arc_about
  about_by v p q choice = arcs (centre_of v) (inner_of v p) p q choice

  pub start_by : (s : Section) (k : Cap) → Most a (start_cap t s k)
  unfolding start_cap
  start_by s Butt = most_up low (edge_most s.left.a s.right.a)
  start_by s Round = about_by s.a s.left.a s.right.a (start_choice s.trend)

  pub end_by : (s : Section) (k : Cap) → Most a (end_cap t s k)
  unfolding end_cap
  end_by s Butt = most_up low (edge_most s.right.b s.left.b)
  end_by s Round = about_by s.b s.right.b s.left.b (end_choice s.trend)

  pub left_by : (m n : Section) → Most a (left_join t m n)
  unfolding left_join
  left_by m n = most_if (left_turns m n) (about_by _ _ _ _) (most_up low (edge_most _ _))

  pub right_by : (m n : Section) → Most a (right_join t m n)
  unfolding right_join
  right_by m n = most_if (right_turns m n) (about_by _ _ _ _) (most_up low (edge_most _ _))

  pub gap_by : (m n : Section) → Most (a + a) (gap_of t m n)
  unfolding gap_of
  gap_by m n = most_both (end_by m Butt) (start_by n Butt)

  pub join_by : (m n : Section) → Most (a + a) (join_of t m n)
  unfolding join_of
  join_by m n = most_if (same_centre m n) (most_both (left_by m n) (right_by m n)) (gap_by m n)

  lone_by : (c : Chain) (k : Cap) → Most a (lone_of t c k)
  unfolding lone_of
  lone_by c k = most_if (c.mark || both_butt c.cap k) (most_none a) (circles _ _)

  last_by : (l : Option Section) (c : Chain) (k : Cap) → Most a (finish_last t l c k)
  unfolding finish_last
  last_by (Some s) c k = end_by s k
  last_by None c k = lone_by c k

  pub finish_by : (c : Chain) (k : Cap) → Most a (finish_of t c k)
  unfolding finish_of
  finish_by c k = last_by c.last c k

  meet_by : (l : Option Section) (k : Cap) (s : Section) → Most (a + a) (meet_last t l k s)
  unfolding meet_last
  meet_by (Some m) k s = join_by m s
  meet_by None k s = most_up (omega arith) (start_by s k)

  drawn_by : (c : Chain) (s : Section) → Most (1 + (1 + (a + a))) (drawn_of t c s)
  unfolding drawn_of
  drawn_by c s = most_both (edge_most _ _) (most_both (edge_most _ _) (meet_by c.last c.cap s))

  -- a chain that starts after a covered vertex starts with a Butt cap, so it has no arc beside the finished chain's
  fresh_by : (v : Vertex) (s : Section) → Most 3 (drawn_of t (fresh_of v Butt) s)
  unfolding drawn_of fresh_of meet_last start_cap
  fresh_by v s = most_both (edge_most _ _) (most_both (edge_most _ _) (edge_most _ _))

  leave_by : (w : Walk) (b : Vertex) → Most a (leave_edges t w b)
  unfolding leave_edges
  leave_by w b = most_if (covered_of w.previous b) (finish_by w.chain Round) (most_none a)

  step_by : (w : Walk) (b : Vertex) (s : Section) → Most (2 * a + 2) (leave_edges t w b ++ drawn_of t (leave_chain w b) s)
  unfolding leave_edges leave_chain
  step_by w b s = go (covered_of w.previous b)
    where
      go : (x : Bool) → Most (2 * a + 2) (elim x [ true ↦ finish_of t w.chain Round | false ↦ [] ] ++ drawn_of t (elim x [ true ↦ fresh_of w.at Butt | false ↦ w.chain ]) s)
      go true = most_up (omega (arith, low)) (most_both (finish_by w.chain Round) (fresh_by w.at s))
      go false = most_up (omega arith) (drawn_by w.chain s)

  pub emitted_by : (w : Walk) (b : Vertex) → Most (2 * a + 2) (emitted_of t w b)
  unfolding emitted_of
  emitted_by w b = most_kind (kind_of w.at b) (most_up (omega arith) (finish_by w.chain _)) (step_by w b _) (most_up (omega arith) (leave_by w b))

  from_by : (w : Walk) (bs : List Vertex) → Most ((2 * a + 2) * length bs + a) (joined (bodies_from t w bs))
  unfolding bodies_from joined
  from_by w [] = most_up (omega arith) (most_both (finish_by w.chain w.closing) (most_none 0))
  from_by w (b ∷ bs) = most_up (omega (arith, mul-suc (2 * a + 2) (length bs))) (most_both (emitted_by w b) (from_by (next_of w b) bs))

  pub edges_by : (vs : List Vertex) → Most ((2 * a + 2) * length vs + a) (joined (bodies_at t vs))
  unfolding bodies_at joined
  edges_by [] = most_none _
  edges_by (v ∷ vs) = most_up (omega (arith, mul-suc (2 * a + 2) (length vs))) (from_by (start_of v) vs)
