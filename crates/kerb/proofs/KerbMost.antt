-- How many edges a kerb can have, and a piece of its tour: no count of one within the limits comes near 2^32. Assumes nothing.
use Rattle.std.specs.Prelude.{Option, Some, None}
use mathlib.Core.Bool.{Bool, true, false}
use mathlib.Core.List.{List, [], ◌∷◌, ◌++◌}
use Prim.Native.Nat.{suc, ◌+◌, ◌*◌, ◌≤◌}
use native.Mathlib.Omega.{arith}
use lib.IntN.{ℤ, pos}
use lib.ListN.{length, drop, length-append}
use lib.Signed.{le_z}
use Rattle.plane.specs.Vectors.{same_point, from_to}
use Rattle.plane.specs.Directions.{direction_of, step_of}
use Rattle.plane.specs.declared.Point.{Point}
use Rattle.plane.specs.declared.Vector.{Vector}
use Rattle.turning.specs.Bounds.{Most}
use Rattle.turning.proofs.Most.{most_none, most_up, most_both, most_if, edge_most, swept_most}
use Rattle.contacts.specs.Contacts.{centre_of, section_of}
use Rattle.joins.specs.Joins.{bend_of}
use Rattle.contacts.specs.declared.Vertex.{Vertex}
use Rattle.contacts.specs.declared.Section.{Section}
use Rattle.kerb.specs.Kerbs.{back_to, sections_from, sections_of, section_edges, straight_of, round_of, outer_of, corner_of, corners_from, join_edges, cap_edges, kerb_edges}
use Rattle.kerb.specs.Theorems.{KerbMost}
use Rattle.kerb.specs.Tours.{sides_of, caps_both, caps_of, closing_of, meet_of, side_edges, meet_edges, emits_in, piece_of, PieceMost}
use Rattle.kerb.specs.declared.Style.{Style}
use Rattle.kerb.specs.declared.Phase.{Phase}
use Rattle.kerb.specs.declared.Phase.TheVariants.{Sides, Corners, Caps, Done}
use Rattle.kerb.specs.declared.Span.{Span}
use Rattle.kerb.specs.declared.Tour.{Tour}
use Rattle.kerb.specs.declared.Join.{Join}
use Rattle.kerb.specs.declared.Join.TheVariants.{Bevel, Round}

outer_most : (t : Vector) (j : Join) (c : Point) (r : ℤ) (p q : Point) → Most 1537 (outer_of t j c r p q)
unfolding outer_of round_of
outer_most t Bevel c r p q = most_up (omega arith) (edge_most p q)
outer_most t Round c r p q = most_if (straight_of (direction_of (from_to c p)) (direction_of (from_to c q))) (most_up (omega arith) (edge_most p q)) (swept_most t c r p q)

corner_most : (t : Vector) (y : Style) (m n : Section) → Most 1539 (corner_of t y m n)
unfolding corner_of
corner_most t y m n = most_if (le_z (pos 0) (bend_of m n))
    (most_both (edge_most _ _) (most_both (edge_most _ _) (outer_most t y.join _ _ _ _)))
    (most_both (edge_most _ _) (most_both (edge_most _ _) (outer_most t y.join _ _ _ _)))

corners_most : (t : Vector) (y : Style) (p : Section) (ss : List Section) → Most (1539 * length ss) (corners_from t y p ss)
unfolding corners_from
corners_most t y p [] = most_none _
corners_most t y p (s ∷ ss) = most_up (omega arith) (most_both (corner_most t y p s) (corners_most t y s ss))

back_length : {A : Type 0} (x : Bool) (a : A) → length (back_to x a) ≤ 1
unfolding back_to
back_length true a = omega arith
back_length false a = omega arith

joins_most : (t : Vector) (y : Style) (ss : List Section) → Most (1539 * length ss) (join_edges t y ss)
unfolding join_edges
joins_most t y [] = most_none _
joins_most t y (s ∷ ss) = most_up (omega (arith, length-append ss (back_to y.closed s), back_length y.closed s)) (corners_most t y s (ss ++ back_to y.closed s))

sides_most : (ss : List Section) → Most (2 * length ss) (section_edges ss)
unfolding section_edges
sides_most [] = most_none _
sides_most (s ∷ ss) = most_up (omega arith) (most_both (edge_most _ _) (most_both (edge_most _ _) (sides_most ss)))

caps_most : (y : Style) (ss : List Section) → Most 2 (cap_edges y ss)
unfolding cap_edges
caps_most y [] = most_none _
caps_most y (s ∷ ss) = most_if y.closed (most_none 2) (most_both (edge_most _ _) (edge_most _ _))

from-length : (a : Vertex) (bs : List Vertex) → length (sections_from a bs) ≤ length bs
unfolding sections_from
from-length a [] = omega arith
from-length a (b ∷ bs) = go (same_point (centre_of a) (centre_of b)) (from-length a bs) (from-length b bs)
  where
    go : (x : Bool) → length (sections_from a bs) ≤ length bs → length (sections_from b bs) ≤ length bs
        → length {A = Section} (elim x [ true ↦ sections_from a bs | false ↦ section_of a b ∷ sections_from b bs ]) ≤ suc (length bs)
    go true h k = omega (arith, h)
    go false h k = omega (arith, k)

sections_length : (y : Style) (vs : List Vertex) → length (sections_of y vs) ≤ length vs
unfolding sections_of
sections_length y [] = omega arith
sections_length y (v ∷ vs) = go (le_z y.radius (pos 1))
  where
    go : (x : Bool) → length {A = Section} (elim x [ true ↦ [] | false ↦ sections_from v (vs ++ back_to y.closed v) ]) ≤ suc (length vs)
    go true = omega arith
    go false = omega (arith, from-length v (vs ++ back_to y.closed v), length-append vs (back_to y.closed v), back_length y.closed v)

pub kerb_most : KerbMost
unfolding kerb_edges
kerb_most g y vs =
    let ss = sections_of y vs in
    let few : 2 * length ss + (1539 * length ss + 2) ≤ 1541 * length vs + 2 = omega (arith, sections_length y vs) in
    (most_up few (most_both (sides_most ss) (most_both (joins_most (step_of g) y ss) (caps_most y ss)))).most

-- ---- a piece of a tour

span_most : (t : Vector) (y : Style) (e : Option Span) (s : Section) → Most 1539 (meet_of t y e s)
unfolding meet_of
span_most t y None s = most_none _
span_most t y (Some p) s = corner_most t y p.last s

closing_most : (t : Vector) (y : Style) (e : Option Span) → Most 1539 (closing_of t y e)
unfolding closing_of
closing_most t y None = most_none _
closing_most t y (Some p) = most_if y.closed (corner_most t y p.last p.first) (most_none _)

both_most : (y : Style) (e : Option Span) → Most 1539 (caps_of y e)
unfolding caps_of caps_both
both_most y None = most_none _
both_most y (Some p) = most_if y.closed (most_none _) (most_up (omega arith) (most_both (edge_most _ _) (edge_most _ _)))

emits_most : (t : Vector) (y : Style) (p : Phase) (bs : List Vertex) (w : Tour) → Most 1539 (emits_in p t y bs w)
unfolding emits_in side_edges meet_edges sides_of
emits_most t y Sides [] w = most_none _
emits_most t y Sides (b ∷ bs) w = most_if (same_point (centre_of w.at) (centre_of b)) (most_none _) (most_up (omega arith) (most_both (edge_most _ _) (edge_most _ _)))
emits_most t y Corners [] w = closing_most t y w.span
emits_most t y Corners (b ∷ bs) w = most_if (same_point (centre_of w.at) (centre_of b)) (most_none _) (span_most t y w.span (section_of w.at b))
emits_most t y Caps bs w = both_most y w.span
emits_most t y Done bs w = most_none _

pub piece_most : PieceMost
unfolding piece_of
piece_most t y qs w = (emits_most t y w.phase (drop w.next qs) w).most
