-- One law for each case of a cap or a join, with what the code has computed as variables and equations; and what the limits leave of a section's
-- contacts and vectors. Assumes nothing.
use mathlib.Core.Path.{◌≡◌, refl, sym, ◌∙◌}
use mathlib.Core.Bool.{Bool, true, false}
use mathlib.Core.List.{◌++◌}
use Prim.Native.Nat.{◌^◌, ◌<◌}
use lib.IntN.{ℤ, pos}
use lib.Signed.{le_z, lt_z, mag}
use Rattle.plane.specs.Vectors.{Near, Short, same_point, cross_of, from_to}
use Rattle.plane.proofs.Products.{bits, back, from_to_short}
use Rattle.plane.specs.declared.Point.{Point}
use Rattle.plane.specs.declared.Vector.{Vector}
use Rattle.turning.specs.Edges.{edge_of}
use Rattle.turning.specs.Arcs.{ring_of, arc_of}
use Rattle.turning.specs.Bounds.{Radius, About, Reach}
use Rattle.turning.specs.declared.Edge.{Edge}
use Rattle.turning.specs.declared.Sweep.{Sweep}
use Rattle.turning.specs.declared.Sweep.TheVariants.{Minor, Major}
use Rattle.contacts.specs.Contacts.{centre_of, line_of}
use Rattle.joins.specs.Joins.{inner_of, arc_about, start_choice, start_cap, end_choice, end_cap, along_of, bend_of, left_turns, left_join, right_turns, right_join, same_centre, gap_of, join_of}
use Rattle.contacts.specs.Bounds.{Inside, Around}
use Rattle.turning.proofs.Rays.{about_near, same_point_lem}
use Rattle.contacts.proofs.Contacts.{centre_is}
use Rattle.contacts.specs.declared.Vertex.{Vertex}
use Rattle.contacts.specs.declared.Section.{Section}
use Rattle.joins.specs.declared.Cap.{Cap}
use Rattle.joins.specs.declared.Cap.TheVariants.{Butt, Round}

-- ---- what the limits leave

pub contact_near : {v : Vertex} {p : Point} → Inside v → About (centre_of v) p → Near p
contact_near h k = about_near k (centre_is h)

pub left_reach : {s : Section} → Around s → Reach s.left
left_reach h = record { a = contact_near h.a h.left_a; b = contact_near h.b h.left_b }

pub right_reach : {s : Section} → Around s → Reach s.right
right_reach h = record { a = contact_near h.a h.right_a; b = contact_near h.b h.right_b }

pub along_short : {e : Edge} {v : Vector} → Reach e → v ≡ along_of e → Short v
unfolding along_of
along_short {e} h f = rw f (from_to_short h.a h.b)

-- ---- an arc about a vertex

pub arc_about_is : (t : Vector) (v : Vertex) (p q : Point) (w : Sweep) {c : Point} → c ≡ centre_of v → arc_about t v p q w ≡ arc_of t c (ring_of (from_to c p)) p q w
unfolding arc_about inner_of
arc_about_is t v p q w e = rw e

-- a vertex's radius, read back from its bits
pub radius_told_lem : {v : Vertex} → Inside v → mag v.radius < 2 ^ 63 → Radius (bits v.radius)
radius_told_lem {v} h k = let f : bits v.radius ≡ v.radius = back (record { sfits = k }) in rw f h.radius

-- ---- caps

pub start_butt : (t : Vector) (s : Section) {k : Cap} → k ≡ Butt → start_cap t s k ≡ edge_of s.left.a s.right.a
unfolding start_cap
start_butt t s e = rw e

pub start_round : (t : Vector) (s : Section) {k : Cap} {w : Sweep} → k ≡ Round → w ≡ start_choice s.trend → start_cap t s k ≡ arc_about t s.a s.left.a s.right.a w
unfolding start_cap
start_round t s e f = rw (e, f)

pub end_butt : (t : Vector) (s : Section) {k : Cap} → k ≡ Butt → end_cap t s k ≡ edge_of s.right.b s.left.b
unfolding end_cap
end_butt t s e = rw e

pub end_round : (t : Vector) (s : Section) {k : Cap} {w : Sweep} → k ≡ Round → w ≡ end_choice s.trend → end_cap t s k ≡ arc_about t s.b s.right.b s.left.b w
unfolding end_cap
end_round t s e f = rw (e, f)

-- ---- turns

pub bend_is : (m n : Section) {u v : Vector} {z : ℤ} → u ≡ line_of m.a m.b → v ≡ line_of n.a n.b → mag z < 2 ^ 63 → z ≡ cross_of u v → bits z ≡ bend_of m n
unfolding bend_of
bend_is m n e f h g = back (record { sfits = h }) ∙ rw (e, f) at g

module _ (m n : Section) {u v : Vector} (y : ℤ) (hy : mag y < 2 ^ 63) where
  pub left_yes : u ≡ along_of n.left → v ≡ along_of m.left → y ≡ cross_of u v → lt_z (pos 0) (bits y) ≡ true → true ≡ left_turns m n
  unfolding left_turns
  left_yes e f g t =
      let k : lt_z (pos 0) (cross_of (along_of n.left) (along_of m.left)) ≡ true = rw (back (record { sfits = hy }), g, e, f) at t in
      rw k

  pub left_no : u ≡ along_of n.left → v ≡ along_of m.left → y ≡ cross_of u v → lt_z (pos 0) (bits y) ≡ false → (z : ℤ) → mag z < 2 ^ 63 → z ≡ bend_of m n → lt_z (bits z) (pos 0) ≡ left_turns m n
  unfolding left_turns
  left_no e f g t z hz b =
      let k : lt_z (pos 0) (cross_of (along_of n.left) (along_of m.left)) ≡ false = rw (back (record { sfits = hy }), g, e, f) at t in
      rw (k, back (record { sfits = hz }), b)

  pub right_yes : u ≡ along_of m.right → v ≡ along_of n.right → y ≡ cross_of u v → lt_z (pos 0) (bits y) ≡ true → true ≡ right_turns m n
  unfolding right_turns
  right_yes e f g t =
      let k : lt_z (pos 0) (cross_of (along_of m.right) (along_of n.right)) ≡ true = rw (back (record { sfits = hy }), g, e, f) at t in
      rw k

  pub right_no : u ≡ along_of m.right → v ≡ along_of n.right → y ≡ cross_of u v → lt_z (pos 0) (bits y) ≡ false → (z : ℤ) → mag z < 2 ^ 63 → z ≡ bend_of m n → le_z (pos 0) (bits z) ≡ right_turns m n
  unfolding right_turns
  right_no e f g t z hz b =
      let k : lt_z (pos 0) (cross_of (along_of m.right) (along_of n.right)) ≡ false = rw (back (record { sfits = hy }), g, e, f) at t in
      rw (k, back (record { sfits = hz }), b)

-- ---- joins

pub left_arc : (t : Vector) (m n : Section) {x : Bool} → x ≡ left_turns m n → x ≡ true → left_join t m n ≡ arc_about t n.a n.left.a m.left.b Minor
unfolding left_join
left_arc t m n e f = let k : left_turns m n ≡ true = sym e ∙ f in rw (k, left_join)

pub left_edge : (t : Vector) (m n : Section) {x : Bool} → x ≡ left_turns m n → x ≡ false → left_join t m n ≡ edge_of n.left.a m.left.b
unfolding left_join
left_edge t m n e f = let k : left_turns m n ≡ false = sym e ∙ f in rw (k, left_join)

pub right_arc : (t : Vector) (m n : Section) {x : Bool} → x ≡ right_turns m n → x ≡ true → right_join t m n ≡ arc_about t m.b m.right.b n.right.a Major
unfolding right_join
right_arc t m n e f = let k : right_turns m n ≡ true = sym e ∙ f in rw (k, right_join)

pub right_edge : (t : Vector) (m n : Section) {x : Bool} → x ≡ right_turns m n → x ≡ false → right_join t m n ≡ edge_of m.right.b n.right.a
unfolding right_join
right_edge t m n e f = let k : right_turns m n ≡ false = sym e ∙ f in rw (k, right_join)

pub centres_told : (m n : Section) {c d : Point} {x y : Bool} → c ≡ centre_of m.b → d ≡ centre_of n.a → x ≡ same_point c d → x ≡ y → same_centre m n ≡ y
unfolding same_centre
centres_told m n e f g h = let k : same_point (centre_of m.b) (centre_of n.a) ≡ _ = rw (e, f) at (sym g ∙ h) in k

-- where the centres are one, a contact of the one section is about the other's vertex
pub about_shared_left : {m : Section} (n : Section) → same_centre m n ≡ true → Around m → About (centre_of n.a) m.left.b
unfolding same_centre
about_shared_left {m} n e h = rw (← same_point_lem (centre_of m.b) (centre_of n.a) e) h.left_b

pub about_shared_right : {n : Section} (m : Section) → same_centre m n ≡ true → Around n → About (centre_of m.b) n.right.a
unfolding same_centre
about_shared_right {n} m e h = rw (same_point_lem (centre_of m.b) (centre_of n.a) e) h.right_a

pub join_met : (t : Vector) (m n : Section) → same_centre m n ≡ true → join_of t m n ≡ left_join t m n ++ right_join t m n
unfolding join_of
join_met t m n e = rw (e, join_of)

pub join_gap : (t : Vector) (m n : Section) → same_centre m n ≡ false → join_of t m n ≡ gap_of t m n
unfolding join_of
join_gap t m n e = rw (e, join_of)

pub gap_is : (t : Vector) (m n : Section) → gap_of t m n ≡ end_cap t m Butt ++ start_cap t n Butt
unfolding gap_of
gap_is t m n = refl
