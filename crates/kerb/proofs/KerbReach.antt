-- How far out the edges of a kerb can end: contacts and inner points lie about points within the limits. Assumes nothing.
use mathlib.Core.Path.{◌≡◌, refl, ap, ◌∙◌}
use mathlib.Core.Bool.{Bool, true, false}
use mathlib.Core.List.{List, [], ◌∷◌, ◌++◌}
use lib.IntN.{pos}
use lib.Signed.{le_z}
use Rattle.plane.specs.Vectors.{same_point, from_to}
use Rattle.plane.specs.Directions.{UnitLong, direction_of, step_of}
use Rattle.plane.proofs.Directions.{step_unit}
use Rattle.plane.specs.declared.Point.{Point}
use Rattle.plane.specs.declared.Vector.{Vector}
use Rattle.turning.specs.Bounds.{Centre, AllReach}
use Rattle.turning.proofs.Limits.{centre_near}
use Rattle.turning.proofs.Reach.{all_reach_none, all_reach_append, all_reach_if, edge_reach, swept_reach}
use Rattle.turning.specs.declared.Edge.{Edge}
use Rattle.contacts.specs.Contacts.{centre_of, section_of}
use Rattle.joins.specs.Joins.{bend_of}
use Rattle.contacts.proofs.Contacts.{centre_is}
use Rattle.contacts.specs.declared.Vertex.{Vertex}
use Rattle.contacts.specs.declared.Section.{Section}
use Rattle.kerb.specs.Kerbs.{back_to, sections_from, sections_of, section_edges, straight_of, round_of, outer_of, corner_of, corners_from, join_edges, last_of, cap_edges, kerb_edges}
use Rattle.kerb.specs.Bounds.{OffCentre, Styled, KerbPoint, KerbPoints, Clear}
use Rattle.kerb.specs.Tours.{point_after, last_point, Homeward}
use Rattle.kerb.specs.Theorems.{KerbReach}
use Rattle.kerb.specs.declared.Style.{Style}
use Rattle.kerb.specs.declared.Join.{Join}
use Rattle.kerb.specs.declared.Join.TheVariants.{Bevel, Round}
use Rattle.kerb.proofs.CornerCases.{off_near, off_shared, near_left_a, near_left_b, near_right_a, near_right_b}
use Rattle.kerb.proofs.ClearSections.{section_clear}
use Rattle.kerb.proofs.TourKept.{comes_home}

module _ (t : Vector) (u : UnitLong t) (y : Style) (w : Styled y) where
  -- ---- a corner

  outer_reach : (j : Join) (c p q : Point) → Centre c → OffCentre c p → OffCentre c q → AllReach (outer_of t j c y.radius p q)
  unfolding outer_of round_of
  outer_reach Bevel c p q h k l = edge_reach p q (off_near k h) (off_near l h)
  outer_reach Round c p q h k l = all_reach_if (straight_of (direction_of (from_to c p)) (direction_of (from_to c q))) _ _
      (λ _. edge_reach p q (off_near k h) (off_near l h))
      (λ _. swept_reach t c y.radius p q u h w.radius k.about l.about k.some l.some)

  corner_reach : (m n : Section) → Clear m → Clear n → centre_of m.b ≡ centre_of n.a → AllReach (corner_of t y m n)
  unfolding corner_of
  corner_reach m n h k e =
      let c = centre_of m.b in
      let i = centre_is h.around.b in
      let j = centre_near i in
      all_reach_if (le_z (pos 0) (bend_of m n)) _ _
      (λ _. all_reach_append _ _ (edge_reach _ _ (near_left_a k) j) (all_reach_append _ _ (edge_reach _ _ j (near_left_b h)) (outer_reach y.join c _ _ i h.right_b (off_shared e k.right_a))))
      (λ _. all_reach_append _ _ (edge_reach _ _ (near_right_b h) j) (all_reach_append _ _ (edge_reach _ _ j (near_right_a k)) (outer_reach y.join c _ _ i (off_shared e k.left_a) h.left_b)))

  -- ---- from a point on

  from_sides : (a : Vertex) (bs : List Vertex) → KerbPoint y a → KerbPoints y bs → AllReach (section_edges (sections_from a bs))
  unfolding sections_from section_edges KerbPoints
  from_sides a [] h k = all_reach_none
  from_sides a (b ∷ bs) h k = go (same_point (centre_of a) (centre_of b)) refl (from_sides a bs h k.1) (from_sides b bs k.0 k.1)
    where
      go : (x : Bool) → same_point (centre_of a) (centre_of b) ≡ x → AllReach (section_edges (sections_from a bs)) → AllReach (section_edges (sections_from b bs))
          → AllReach (section_edges (elim x [ true ↦ sections_from a bs | false ↦ section_of a b ∷ sections_from b bs ]))
      go true e i j = i
      go false e i j =
          let s = section_clear h k.0 e w in
          all_reach_append _ _ (edge_reach _ _ (near_left_b s) (near_left_a s)) (all_reach_append _ _ (edge_reach _ _ (near_right_a s) (near_right_b s)) j)

  last_corner : (x : Bool) (p f : Section) → Clear p → Clear f → (x ≡ true → centre_of p.b ≡ centre_of f.a) → AllReach (corners_from t y p (back_to x f))
  unfolding corners_from back_to
  last_corner true p f h k e = all_reach_append _ _ (corner_reach p f h k (e refl)) all_reach_none
  last_corner false p f h k e = all_reach_none

  from_corners : (p f : Section) (a : Vertex) (bs : List Vertex) → Clear p → Clear f → p.b ≡ a → KerbPoint y a → KerbPoints y bs → (y.closed ≡ true → centre_of (last_point a bs) ≡ centre_of f.a)
      → AllReach (corners_from t y p (sections_from a bs ++ back_to y.closed f))
  unfolding corners_from sections_from KerbPoints last_point point_after section_of
  from_corners p f a [] h k e i j home = last_corner y.closed p f h k (λ c. ap centre_of e ∙ home c)
  from_corners p f a (b ∷ bs) h k e i j home =
      go (same_point (centre_of a) (centre_of b)) refl home (from_corners p f a bs h k e i j.1) (λ m. from_corners (section_of a b) f b bs m k refl j.0 j.1)
    where
      go : (x : Bool) → same_point (centre_of a) (centre_of b) ≡ x → (y.closed ≡ true → centre_of (last_point (elim x [ true ↦ a | false ↦ b ]) bs) ≡ centre_of f.a)
          → ((y.closed ≡ true → centre_of (last_point a bs) ≡ centre_of f.a) → AllReach (corners_from t y p (sections_from a bs ++ back_to y.closed f)))
          → (Clear (section_of a b) → (y.closed ≡ true → centre_of (last_point b bs) ≡ centre_of f.a) → AllReach (corners_from t y (section_of a b) (sections_from b bs ++ back_to y.closed f)))
          → AllReach (corners_from t y p (elim x [ true ↦ sections_from a bs | false ↦ section_of a b ∷ sections_from b bs ] ++ back_to y.closed f))
      go true q r m n = m r
      go false q r m n =
          let s = section_clear i j.0 q w in
          all_reach_append _ _ (corner_reach p (section_of a b) h s (ap centre_of e)) (n s r)

  from_joins : (a : Vertex) (bs : List Vertex) → KerbPoint y a → KerbPoints y bs → (y.closed ≡ true → centre_of (last_point a bs) ≡ centre_of a) → AllReach (join_edges t y (sections_from a bs))
  unfolding join_edges sections_from KerbPoints last_point point_after section_of
  from_joins a [] h k home = all_reach_none
  from_joins a (b ∷ bs) h k home = go (same_point (centre_of a) (centre_of b)) refl home (from_joins a bs h k.1)
    where
      go : (x : Bool) → same_point (centre_of a) (centre_of b) ≡ x → (y.closed ≡ true → centre_of (last_point (elim x [ true ↦ a | false ↦ b ]) bs) ≡ centre_of a)
          → ((y.closed ≡ true → centre_of (last_point a bs) ≡ centre_of a) → AllReach (join_edges t y (sections_from a bs)))
          → AllReach (join_edges t y (elim x [ true ↦ sections_from a bs | false ↦ section_of a b ∷ sections_from b bs ]))
      go true q r m = m r
      go false q r m =
          let s = section_clear h k.0 q w in
          from_corners (section_of a b) (section_of a b) b bs s s refl k.0 k.1 r

  last_clear : (s : Section) (a : Vertex) (bs : List Vertex) → Clear s → KerbPoint y a → KerbPoints y bs → Clear (last_of s (sections_from a bs))
  unfolding last_of sections_from KerbPoints
  last_clear s a [] h i j = h
  last_clear s a (b ∷ bs) h i j = go (same_point (centre_of a) (centre_of b)) refl (last_clear s a bs h i j.1) (λ m. last_clear (section_of a b) b bs m j.0 j.1)
    where
      go : (x : Bool) → same_point (centre_of a) (centre_of b) ≡ x → Clear (last_of s (sections_from a bs)) → (Clear (section_of a b) → Clear (last_of (section_of a b) (sections_from b bs)))
          → Clear (last_of s (elim x [ true ↦ sections_from a bs | false ↦ section_of a b ∷ sections_from b bs ]))
      go true q m n = m
      go false q m n = n (section_clear i j.0 q w)

  from_caps : (a : Vertex) (bs : List Vertex) → KerbPoint y a → KerbPoints y bs → AllReach (cap_edges y (sections_from a bs))
  unfolding cap_edges sections_from KerbPoints
  from_caps a [] h k = all_reach_none
  from_caps a (b ∷ bs) h k = go (same_point (centre_of a) (centre_of b)) refl (from_caps a bs h k.1)
    where
      go : (x : Bool) → same_point (centre_of a) (centre_of b) ≡ x → AllReach (cap_edges y (sections_from a bs))
          → AllReach (cap_edges y (elim x [ true ↦ sections_from a bs | false ↦ section_of a b ∷ sections_from b bs ]))
      go true q m = m
      go false q m =
          let s = section_clear h k.0 q w in
          let l = last_clear (section_of a b) b bs s k.0 k.1 in
          all_reach_if y.closed _ _ (λ _. all_reach_none) (λ _. all_reach_append _ _ (edge_reach _ _ (near_left_a s) (near_right_a s)) (edge_reach _ _ (near_right_b l) (near_left_b l)))

-- every point of a kerb within the limits, and back to the first
both_points : (y : Style) (vs ws : List Vertex) → KerbPoints y vs → KerbPoints y ws → KerbPoints y (vs ++ ws)
unfolding KerbPoints
both_points y [] ws f g = g
both_points y (v ∷ vs) ws f g = (f.0, both_points y vs ws f.1 g)

pub back_points : (y : Style) (v : Vertex) (vs : List Vertex) → KerbPoint y v → KerbPoints y vs → KerbPoints y (vs ++ back_to y.closed v)
unfolding KerbPoints back_to
back_points y v vs h k = both_points y vs (back_to y.closed v) k (go y.closed)
  where
    go : (x : Bool) → KerbPoints y (back_to x v)
    go true = (h, tt)
    go false = tt

pub kerb_reach : KerbReach
unfolding kerb_edges sections_of KerbPoints section_edges join_edges cap_edges Homeward
kerb_reach g y [] r h = all_reach_none
kerb_reach g y (v ∷ vs) r h = go (le_z y.radius (pos 1)) refl
  where
    edges : List Section → List Edge
    edges ss = section_edges ss ++ (join_edges (step_of g) y ss ++ cap_edges y ss)

    go : (x : Bool) → le_z y.radius (pos 1) ≡ x → AllReach (edges (elim x [ true ↦ [] | false ↦ sections_from v (vs ++ back_to y.closed v) ]))
    go true i = all_reach_none
    go false i =
        let s : Styled y = record { radius = r; draws = i } in
        let u = step_unit g refl in
        let qs = vs ++ back_to y.closed v in
        let k = back_points y v vs h.0 h.1 in
        all_reach_append _ _ (from_sides (step_of g) u y s v qs h.0 k)
        (all_reach_append _ _ (from_joins (step_of g) u y s v qs h.0 k (comes_home y v vs)) (from_caps (step_of g) u y s v qs h.0 k))
