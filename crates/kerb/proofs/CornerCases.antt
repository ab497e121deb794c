-- One law for each case of a corner, with what the code has computed as variables and equations. Assumes nothing.
use mathlib.Core.Path.{◌≡◌, sym}
use mathlib.Core.Bool.{Bool, true, false}
use mathlib.Core.List.{List, ◌++◌, append_assoc}
use Prim.Native.Nat.{ℕ}
use lib.IntN.{ℤ, pos}
use lib.Signed.{le_z, lt_z}
use Rattle.plane.specs.Vectors.{Near, from_to, cross_of, dot_of}
use Rattle.plane.specs.Directions.{direction_of}
use Rattle.plane.specs.declared.Point.{Point}
use Rattle.plane.specs.declared.Vector.{Vector}
use Rattle.turning.specs.Edges.{edge_numbers, edge_of}
use Rattle.folds.specs.Pens.{Lays}
use Rattle.folds.proofs.Laid.{lays_runs}
use Rattle.turning.proofs.Reach.{all_reach_append, edge_reach}
use Rattle.runs.specs.Runs.{Runs, put}
use Rattle.turning.specs.Arcs.{swept_of}
use Rattle.turning.specs.Bounds.{Centre}
use Rattle.turning.proofs.Rays.{about_near}
use Rattle.contacts.specs.Contacts.{centre_of}
use Rattle.joins.specs.Joins.{bend_of}
use Rattle.contacts.specs.Bounds.{Inside}
use Rattle.contacts.proofs.Contacts.{centre_is}
use Rattle.contacts.specs.declared.Vertex.{Vertex}
use Rattle.contacts.specs.declared.Section.{Section}
use Rattle.kerb.specs.Kerbs.{straight_of, round_of, outer_of, corner_of}
use Rattle.kerb.specs.Bounds.{OffCentre, Clear}
use Rattle.kerb.specs.declared.Style.{Style}
use Rattle.kerb.specs.declared.Join.{Join}
use Rattle.kerb.specs.declared.Join.TheVariants.{Bevel, Round}

pub off_near : {c p : Point} → OffCentre c p → Centre c → Near p
off_near h k = about_near h.about k

pub centre_of_lem : {c : Point} {v : Vertex} → c ≡ centre_of v → Inside v → Centre c
centre_of_lem e h = rw e (centre_is h)

module _ {s : Section} (h : Clear s) where
  pub near_left_a : Near s.left.a
  near_left_a = off_near h.left_a (centre_is h.around.a)

  pub near_left_b : Near s.left.b
  near_left_b = off_near h.left_b (centre_is h.around.b)

  pub near_right_a : Near s.right.a
  near_right_a = off_near h.right_a (centre_is h.around.a)

  pub near_right_b : Near s.right.b
  near_right_b = off_near h.right_b (centre_is h.around.b)

-- two edges as they are laid
pub lays_two : {t : Vector} {b : Bool} {l₀ l₁ : List ℤ} {a₀ a₁ : ℕ} {p q r s : Point} → Near p → Near q → Near r → Near s
    → Runs put edge_numbers l₀ a₀ (edge_of p q ++ edge_of r s) l₁ a₁ → Lays t b l₀ a₀ (edge_of p q ++ edge_of r s) l₁ a₁
lays_two {p = p} {q = q} {r = r} {s = s} h i j k x = lays_runs (all_reach_append (edge_of p q) (edge_of r s) (edge_reach p q h i) (edge_reach r s j k)) x

-- a contact of the next section is off the centre that it shares
pub off_shared : {c d p : Point} → c ≡ d → OffCentre d p → OffCentre c p
off_shared e h = rw e h

-- ---- whether an arc is one edge: x is the directions' cross product, y their dot product

module _ (d e : Vector) {x : ℤ} (f : x ≡ cross_of d e) where
  pub straight_first : {y : ℤ} → y ≡ dot_of d e → le_z x (pos 0) ≡ true → lt_z (pos 0) y ≡ straight_of d e
  unfolding straight_of
  straight_first g h = rw (← f, h, g)

  pub straight_not : le_z x (pos 0) ≡ false → le_z x (pos 0) ≡ straight_of d e
  unfolding straight_of
  straight_not h = rw (← f, h)

-- ---- a round corner: m and n are the rays, d and u their directions, s the radius

module _ (t : Vector) (c : Point) (r : ℤ) (p q : Point) {m n d u : Vector} {x : Bool} (e : m ≡ from_to c p) (f : n ≡ from_to c q) (g : d ≡ direction_of m) (h : u ≡ direction_of n) (i : x ≡ straight_of d u) where
  told : {b : Bool} → x ≡ b → straight_of (direction_of (from_to c p)) (direction_of (from_to c q)) ≡ b
  told j = rw (← e, ← f, ← g, ← h, ← i, j)

  pub round_edge : x ≡ true → round_of t c r p q ≡ edge_of p q
  unfolding round_of
  round_edge j = rw (told j, round_of)

  pub round_swept : {s : ℤ} → x ≡ false → s ≡ r → round_of t c r p q ≡ swept_of t c s p q
  unfolding round_of
  round_swept j k = rw (told j, round_of, k)

-- ---- the outer side

pub outer_bevel : (t : Vector) {j : Join} (c : Point) (r : ℤ) (p q : Point) → j ≡ Bevel → outer_of t j c r p q ≡ edge_of p q
unfolding outer_of
outer_bevel t c r p q e = rw e

pub outer_round : (t : Vector) {j : Join} (c : Point) (r : ℤ) (p q : Point) → j ≡ Round → outer_of t j c r p q ≡ round_of t c r p q
unfolding outer_of
outer_round t c r p q e = rw e

-- ---- a corner: z is how the centre line bends

module _ (t : Vector) (y : Style) (m n : Section) {c : Point} {z : ℤ} (e : c ≡ centre_of m.b) (f : z ≡ bend_of m n) where
  pub corner_left : le_z (pos 0) z ≡ true
      → corner_of t y m n ≡ edge_of n.left.a c ++ edge_of c m.left.b ++ outer_of t y.join c y.radius m.right.b n.right.a
  unfolding corner_of
  corner_left h =
      let k : le_z (pos 0) (bend_of m n) ≡ true = rw f at h in
      rw (k, corner_of, e) (sym (append_assoc (edge_of n.left.a (centre_of m.b)) (edge_of (centre_of m.b) m.left.b) _))

  pub corner_right : le_z (pos 0) z ≡ false
      → corner_of t y m n ≡ edge_of m.right.b c ++ edge_of c n.right.a ++ outer_of t y.join c y.radius n.left.a m.left.b
  unfolding corner_of
  corner_right h =
      let k : le_z (pos 0) (bend_of m n) ≡ false = rw f at h in
      rw (k, corner_of, e) (sym (append_assoc (edge_of m.right.b (centre_of m.b)) (edge_of (centre_of m.b) n.right.a) _))
