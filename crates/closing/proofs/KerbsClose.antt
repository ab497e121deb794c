-- A kerb's boundary closes: each corner leads on from one section's contacts to the next's. Assumes nothing.
use mathlib.Core.Path.{◌≡◌, refl, sym, ap, ◌∙◌}
use mathlib.Core.Bool.{Bool, true, false}
use mathlib.Core.List.{List, [], ◌∷◌, ◌++◌, append-nil, append_assoc}
use Prim.Native.Nat.{◌+◌}
use native.Mathlib.Omega.{arith}
use lib.IntN.{ℤ, pos}
use lib.Signed.{le_z}
use Rattle.plane.specs.Vectors.{from_to}
use Rattle.plane.specs.Directions.{direction_of, step_of}
use Rattle.plane.specs.declared.Point.{Point}
use Rattle.plane.specs.declared.Vector.{Vector}
use Rattle.turning.specs.Edges.{edge_of}
use Rattle.turning.specs.Arcs.{swept_of}
use Rattle.turning.specs.declared.Edge.{Edge}
use Rattle.contacts.specs.Contacts.{centre_of}
use Rattle.joins.specs.Joins.{bend_of}
use Rattle.contacts.specs.declared.Section.{Section}
use Rattle.kerb.specs.Kerbs.{back_to, sections_of, section_edges, straight_of, round_of, outer_of, corner_of, corners_from, join_edges, last_of, cap_edges, kerb_edges}
use Rattle.kerb.specs.declared.Join.{Join}
use Rattle.kerb.specs.declared.Join.TheVariants.{Bevel, Round}
use Rattle.kerb.specs.declared.Style.{Style}
use Rattle.closing.specs.Closing.{here_of, starts_at, ends_at, Balanced, KerbCloses}
use Rattle.closing.proofs.Carried.{Carries, starts_append, ends-append, edge_carries, swept_carries}
use Rattle.closing.proofs.Chained.{Connects}

outer_carries : (t : Vector) (j : Join) (c : Point) (r : ℤ) (p q : Point) → Carries p q (outer_of t j c r p q)
unfolding outer_of round_of
outer_carries t Bevel c r p q = edge_carries p q
outer_carries t Round c r p q = go (straight_of (direction_of (from_to c p)) (direction_of (from_to c q)))
  where
    go : (x : Bool) → Carries p q (elim x [ true ↦ edge_of p q | false ↦ swept_of t c r p q ])
    go true = edge_carries p q
    go false = swept_carries t c r p q

corner_joins : (t : Vector) (y : Style) (prev next : Section) → Connects prev next (corner_of t y prev next)
unfolding corner_of
corner_joins t y prev next = go (le_z (pos 0) (bend_of prev next))
  where
    c : Point
    c = centre_of prev.b

    -- in through the vertex and out again, and the outer side
    sides : (p q u v : Point) → (x : Point)
        → starts_at x (edge_of p c ++ (edge_of c q ++ outer_of t y.join c y.radius u v)) + here_of x q + here_of x v ≡ ends_at x (edge_of p c ++ (edge_of c q ++ outer_of t y.join c y.radius u v)) + here_of x p + here_of x u
    sides p q u v x =
        let o = outer_of t y.join c y.radius u v in
        omega (
          arith,
          (edge_carries p c).carry x,
          (edge_carries c q).carry x,
          (outer_carries t y.join c y.radius u v).carry x,
          starts_append x (edge_of p c) (edge_of c q ++ o),
          starts_append x (edge_of c q) o,
          ends-append x (edge_of p c) (edge_of c q ++ o),
          ends-append x (edge_of c q) o,
        )

    go : (x : Bool) → Connects prev next (elim x [
      | true ↦ edge_of next.left.a c ++ (edge_of c prev.left.b ++ outer_of t y.join c y.radius prev.right.b next.right.a)
      | false ↦ edge_of prev.right.b c ++ (edge_of c next.right.a ++ outer_of t y.join c y.radius next.left.a prev.left.b)
    ])
    go true = record { connects = λ x. omega (arith, sides next.left.a prev.left.b prev.right.b next.right.a x) }
    go false = record { connects = λ x. omega (arith, sides prev.right.b next.right.a next.left.a prev.left.b x) }

-- sections from s on, and the corners between them
sections_open : (t : Vector) (y : Style) (s : Section) (ss : List Section) (x : Point)
    → starts_at x (section_edges (s ∷ ss)) + starts_at x (corners_from t y s ss) + here_of x s.left.a + here_of x (last_of s ss).right.b
    ≡ ends_at x (section_edges (s ∷ ss)) + ends_at x (corners_from t y s ss) + here_of x s.right.a + here_of x (last_of s ss).left.b
unfolding section_edges corners_from last_of starts_at ends_at
sections_open t y s [] x =
    let l = edge_of s.left.b s.left.a in
    let r = edge_of s.right.a s.right.b in
    omega (
      arith,
      (edge_carries s.left.b s.left.a).carry x,
      (edge_carries s.right.a s.right.b).carry x,
      starts_append x l (r ++ []),
      starts_append x r [],
      ends-append x l (r ++ []),
      ends-append x r [],
    )
sections_open t y s (n ∷ ss) x =
    let l = edge_of s.left.b s.left.a in
    let r = edge_of s.right.a s.right.b in
    let more = section_edges (n ∷ ss) in
    omega (
      arith,
      sections_open t y n ss x,
      (corner_joins t y s n).connects x,
      (edge_carries s.left.b s.left.a).carry x,
      (edge_carries s.right.a s.right.b).carry x,
      starts_append x l (r ++ more),
      starts_append x r more,
      starts_append x (corner_of t y s n) (corners_from t y n ss),
      ends-append x l (r ++ more),
      ends-append x r more,
      ends-append x (corner_of t y s n) (corners_from t y n ss),
    )

-- the corner back to the first section
corners_back : (t : Vector) (y : Style) (s : Section) (ss : List Section) (f : Section) → corners_from t y s (ss ++ (f ∷ [])) ≡ corners_from t y s ss ++ corner_of t y (last_of s ss) f
unfolding corners_from last_of
corners_back t y s [] f = append-nil (corner_of t y s f)
corners_back t y s (n ∷ ss) f = ap (λ (es : List Edge). corner_of t y s n ++ es) (corners_back t y n ss f) ∙ sym (append_assoc (corner_of t y s n) (corners_from t y n ss) (corner_of t y (last_of n ss) f))

closes : (t : Vector) (y : Style) (ss : List Section) → Balanced (section_edges ss ++ (join_edges t y ss ++ cap_edges y ss))
unfolding join_edges cap_edges section_edges starts_at ends_at back_to
closes t y [] = record { balance = λ x. refl }
closes t y (s ∷ ss) = go y.closed
  where
    go : (c : Bool) → Balanced (section_edges (s ∷ ss) ++ (corners_from t y s (ss ++ back_to c s) ++ (elim c [ true ↦ [] | false ↦ edge_of s.left.a s.right.a ++ edge_of (last_of s ss).right.b (last_of s ss).left.b ])))
    go true = record {
      balance = λ x. omega (
        arith,
        sections_open t y s ss x,
        (corner_joins t y (last_of s ss) s).connects x,
        ap (starts_at x) (corners_back t y s ss s),
        ap (ends_at x) (corners_back t y s ss s),
        starts_append x (section_edges (s ∷ ss)) (corners_from t y s (ss ++ (s ∷ [])) ++ []),
        starts_append x (corners_from t y s (ss ++ (s ∷ []))) [],
        starts_append x (corners_from t y s ss) (corner_of t y (last_of s ss) s),
        ends-append x (section_edges (s ∷ ss)) (corners_from t y s (ss ++ (s ∷ [])) ++ []),
        ends-append x (corners_from t y s (ss ++ (s ∷ []))) [],
        ends-append x (corners_from t y s ss) (corner_of t y (last_of s ss) s),
      );
    }
    go false =
        let a = edge_of s.left.a s.right.a in
        let b = edge_of (last_of s ss).right.b (last_of s ss).left.b in
        record {
          balance = λ x. omega (
            arith,
            sections_open t y s ss x,
            (edge_carries s.left.a s.right.a).carry x,
            (edge_carries (last_of s ss).right.b (last_of s ss).left.b).carry x,
            ap (λ (l : List Section). starts_at x (corners_from t y s l)) (append-nil ss),
            ap (λ (l : List Section). ends_at x (corners_from t y s l)) (append-nil ss),
            starts_append x (section_edges (s ∷ ss)) (corners_from t y s (ss ++ []) ++ (a ++ b)),
            starts_append x (corners_from t y s (ss ++ [])) (a ++ b),
            starts_append x a b,
            ends-append x (section_edges (s ∷ ss)) (corners_from t y s (ss ++ []) ++ (a ++ b)),
            ends-append x (corners_from t y s (ss ++ [])) (a ++ b),
            ends-append x a b,
          );
        }

pub kerb_closes : KerbCloses
unfolding kerb_edges
kerb_closes g y vs = closes (step_of g) y (sections_of y vs)
