-- A kerb's points in lent numbers: how many, each of them, and those ahead of the first. Assumes nothing.
use mathlib.Core.Path.{◌≡◌, refl, sym, ap, ◌∙◌}
use mathlib.Core.Bool.{Bool, true, false}
use mathlib.Core.List.{List, [], ◌∷◌, ◌++◌}
use Prim.Native.Nat.{ℕ, zero, suc, ◌+◌, ◌*◌, ◌/◌, ◌^◌, ◌≤◌, ◌<◌}
use native.Mathlib.Omega.{arith}
use native.Mathlib.Numerals.{add-one}
use lib.IntN.{ℤ, pos}
use lib.ListN.{length, get_or, length-append}
use lib.Signed.{le_z, mag}
use Rattle.runs.specs.Runs.{spread}
use Rattle.plane.specs.Directions.{step_of}
use Rattle.plane.specs.declared.Vector.{Vector}
use Rattle.plane.proofs.Products.{bits, back}
use Rattle.turning.specs.declared.Edge.{Edge}
use Rattle.contacts.specs.Limits.{first_outside}
use Rattle.contacts.specs.declared.Vertex.{Vertex}
use Rattle.kerb.specs.Kerbs.{back_to, kerb_bodies, kerb_edges}
use Rattle.kerb.specs.Bounds.{KerbPoint, KerbPoints}
use Rattle.kerb.specs.Tours.{tour_from, rest_bodies, rest_of, Homeward}
use Rattle.kerb.specs.declared.Style.{Style}
use Rattle.kerb.proofs.TourLaw.{edges_are_bodies, bodies_toured, bodies_thin, bodies_none}
use Rattle.kerb.proofs.TourKept.{comes_home}
use Rattle.kerb.proofs.KerbReach.{back_points}
use Rattle.paths.specs.Paths.{none}
use Rattle.paths.proofs.Stands.{next_inside}
use Rattle.kerb_paths.specs.Points.{kerb_path, first_of, way_of, way_count}

-- ---- points

pub point_count : (r : ℤ) (l : List ℤ) → length (kerb_path r l) ≡ length l / 2
unfolding kerb_path
point_count r [] = refl
point_count r (x ∷ []) = refl
point_count r (x ∷ y ∷ l) = let e : length (kerb_path r l) ≡ length l / 2 = point_count r l in omega arith

point_at : (r : ℤ) (l : List ℤ) (k : ℕ) → k < length (kerb_path r l) → record { x = get_or l (2 * k) (pos 0); y = get_or l (2 * k + 1) (pos 0); radius = r } ≡ get_or (kerb_path r l) k none
unfolding kerb_path
point_at r [] k h = absurd (omega arith)
point_at r (x ∷ []) k h = absurd (omega arith)
point_at r (x ∷ y ∷ l) zero h = refl
point_at r (x ∷ y ∷ l) (suc k) h =
    let e₀ : 2 * suc k ≡ suc (suc (2 * k)) = omega arith in
    let e₁ : 2 * suc k + 1 ≡ suc (suc (2 * k + 1)) = omega arith in
    let i : k < length (kerb_path r l) = omega arith in
    rw (e₁, e₀) (point_at r l k i)

-- x and y are what the code has read, the radius as its bits
pub kerb_point_read : (r : ℤ) (l : List ℤ) (k : ℕ) (x y : ℤ) → mag r < 2 ^ 63 → k < length (kerb_path r l) → bits x ≡ get_or l (2 * k) (pos 0) → bits y ≡ get_or l (2 * k + 1) (pos 0)
    → record { x = bits x; y = bits y; radius = bits r } ≡ get_or (kerb_path r l) k none
kerb_point_read r l k x y f h ex ey = let er : bits r ≡ r = back (record { sfits = f }) in rw (ex, ey, er) (point_at r l k h)

point_radius : (r : ℤ) (l : List ℤ) (k : ℕ) → k < length (kerb_path r l) → (get_or (kerb_path r l) k none).radius ≡ r
point_radius r l k h = ap (λ (v : Vertex). v.radius) (sym (point_at r l k h))

module _ (y : Style) (l : List ℤ) (h : first_outside (kerb_path y.radius l) ≡ length (kerb_path y.radius l)) where
  within_at : (k : ℕ) → k < length (kerb_path y.radius l) → KerbPoint y (get_or (kerb_path y.radius l) k none)
  within_at k n = record { inside = next_inside (kerb_path y.radius l) k h n refl; radius = point_radius y.radius l k n }

  pub first_within : 0 < length (kerb_path y.radius l) → KerbPoint y (first_of (kerb_path y.radius l))
  unfolding first_of
  first_within n = within_at 0 n

  each : (vs : List Vertex) → ((k : ℕ) → k < length vs → KerbPoint y (get_or vs k none)) → KerbPoints y vs
  unfolding KerbPoints
  each [] f = tt
  each (v ∷ vs) f = (f 0 (omega arith), each vs (λ k n. f (suc k) (omega arith)))

  pub points_within : KerbPoints y (kerb_path y.radius l)
  points_within = each (kerb_path y.radius l) within_at

pub way_within : (y : Style) (vs : List Vertex) → KerbPoints y vs → KerbPoints y (way_of y vs)
unfolding KerbPoints way_of
way_within y [] h = tt
way_within y (v ∷ vs) h = back_points y v vs h.0 h.1

-- ---- those ahead of the first

pub way_length : (y : Style) (vs : List Vertex) → 0 < length vs → length (way_of y vs) ≡ way_count y.closed (length vs)
unfolding way_of back_to way_count
way_length y [] h = absurd (omega arith)
way_length y (v ∷ vs) h = go y.closed
  where
    go : (x : Bool) → length (vs ++ back_to x v) ≡ way_count x (suc (length vs))
    go true = omega (arith, length-append vs (v ∷ []))
    go false = omega (arith, length-append vs [])

count_most : (x : Bool) (n : ℕ) → way_count x n ≤ n
unfolding way_count
count_most true n = omega arith
count_most false n = omega arith

pub way_most : (y : Style) (vs : List Vertex) → 0 < length vs → length (way_of y vs) ≤ length vs
way_most y vs h = omega (arith, way_length y vs h, count_most y.closed (length vs))

get_before : (vs ws : List Vertex) (k : ℕ) → k < length vs → get_or (vs ++ ws) k none ≡ get_or vs k none
get_before [] ws k h = absurd (omega arith)
get_before (v ∷ vs) ws zero h = refl
get_before (v ∷ vs) ws (suc k) h = get_before vs ws k (omega arith)

get_past : (vs : List Vertex) (v : Vertex) (k : ℕ) → length vs ≤ k → k < length vs + 1 → get_or (vs ++ (v ∷ [])) k none ≡ v
get_past [] v zero h l = refl
get_past [] v (suc k) h l = absurd (omega arith)
get_past (u ∷ vs) v zero h l = absurd (omega arith)
get_past (u ∷ vs) v (suc k) h l = get_past vs v k (omega arith) (omega arith)

pub way_on : (y : Style) (vs : List Vertex) (k : ℕ) {b : Vertex} → k + 1 < length vs → b ≡ get_or vs (k + 1) none → b ≡ get_or (way_of y vs) k none
unfolding way_of
way_on y [] k h e = absurd (omega arith)
way_on y (v ∷ vs) k h e = rw (add-one k) at e ∙ sym (get_before vs (back_to y.closed v) k (omega arith))

pub way_back : (y : Style) (vs : List Vertex) (k : ℕ) {b : Vertex} → length vs ≤ k + 1 → b ≡ get_or vs 0 none → k < length (way_of y vs) → b ≡ get_or (way_of y vs) k none
unfolding way_of back_to
way_back y [] k h e l = absurd (omega arith)
way_back y (v ∷ vs) k {b} h e l = go y.closed l
  where
    go : (x : Bool) → k < length (vs ++ back_to x v) → b ≡ get_or (vs ++ back_to x v) k none
    go true m = e ∙ sym (get_past vs v k (omega arith) (omega (arith, length-append vs (v ∷ []))))
    go false m = absurd (omega (arith, length-append vs []))

pub way_home : (y : Style) (vs : List Vertex) → 0 < length vs → Homeward y (first_of vs) (first_of vs) (way_of y vs)
unfolding first_of way_of
way_home y [] h = absurd (omega arith)
way_home y (v ∷ vs) h = comes_home y v vs

-- ---- a kerb's bodies and edges are a tour's

pub kerb_bodies_lem : (g : ℕ) (y : Style) (vs : List Vertex) {t : Vector} → 0 < length vs → le_z y.radius (pos 1) ≡ false → t ≡ step_of g
    → kerb_bodies g y vs ≡ rest_bodies t y (first_of vs) (way_of y vs) (tour_from (first_of vs))
unfolding first_of way_of
kerb_bodies_lem g y [] h e f = absurd (omega arith)
kerb_bodies_lem g y (v ∷ vs) h e f = bodies_toured g y v vs f e

pub kerb_tour : (g : ℕ) (y : Style) (vs : List Vertex) {t : Vector} → 0 < length vs → le_z y.radius (pos 1) ≡ false → t ≡ step_of g
    → kerb_edges g y vs ≡ rest_of t y (first_of vs) (way_of y vs) (tour_from (first_of vs))
unfolding rest_of
kerb_tour g y vs h e f = edges_are_bodies g y vs ∙ ap (spread (λ (b : List Edge). b)) (kerb_bodies_lem g y vs h e f)

pub kerb_thin : (g : ℕ) (y : Style) (vs : List Vertex) → le_z y.radius (pos 1) ≡ true → kerb_edges g y vs ≡ []
unfolding spread
kerb_thin g y vs e = edges_are_bodies g y vs ∙ ap (spread (λ (b : List Edge). b)) (bodies_thin g y vs e)

pub kerb_empty : (g : ℕ) (y : Style) (vs : List Vertex) → length vs ≡ 0 → kerb_edges g y vs ≡ []
unfolding spread
kerb_empty g y [] e = edges_are_bodies g y [] ∙ ap (spread (λ (b : List Edge). b)) (bodies_none g y)
kerb_empty g y (v ∷ vs) e = absurd (omega arith)
