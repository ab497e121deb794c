-- Half a circle at grade 8: 402 rotations, and from the radius 512 on every edge has length. Assumes nothing.
use mathlib.Core.Path.{◌≡◌, refl, sym, ap, ◌∙◌}
use mathlib.Core.Bool.{Bool, true, false, not}
use mathlib.Core.List.{List, [], ◌∷◌, ◌++◌}
use Prim.Native.Nat.{ℕ, zero, suc, ◌+◌, ◌-◌, ◌*◌, ◌^◌, ◌≤◌, ◌<◌}
use native.Mathlib.Nat.{mul-le-mul_left}
use native.Mathlib.Numerals.{sub-one}
use native.Mathlib.Omega.{arith}
use lib.IntN.{ℤ, pos, negsuc, neg_ℤ, nat_abs, ◌+ℤ◌, ◌*ℤ◌}
use lib.ListN.{length}
use Rattle.whole.proofs.Signed.{up, down, abs_is, add_balance, up-neg, down-neg}
use Rattle.whole.proofs.Sizes.{abs_mul}
use Rattle.runs.specs.Runs.{Runs, spread, put}
use Rattle.runs.proofs.Laws.{runs_as}
use Rattle.runs.proofs.Onward.{Onward, onward_start, onward_step, onward_as, onward_done, onward_pos}
use Rattle.runs.proofs.Written.{onward_length}
use Rattle.number.specs.MulDiv.{nearest_of, rounded_of, mul_div_of}
use Rattle.plane.specs.Vectors.{Near, same_point, square_of}
use Rattle.plane.specs.Directions.{UnitLong, step_of, rotated_of, scaled_of}
use Rattle.plane.proofs.Directions.{turned_unit}
use Rattle.plane.specs.declared.Point.{Point}
use Rattle.plane.specs.declared.Vector.{Vector}
use Rattle.turning.specs.Edges.{edge_numbers, edge_of}
use Rattle.turning.specs.Arcs.{stops_of, turns_of}
use Rattle.turning.specs.Bounds.{Turns}
use Rattle.turning.specs.declared.Edge.{Edge}
use Rattle.turning.specs.declared.Turning.{Turning}
use Rattle.turning.proofs.Stored.{edge_some}
use Rattle.turning.proofs.Rays.{same_point_lem, eastward_unit, westward_unit}
use Rattle.turning.proofs.Cases.{turns_go, turns_stop}
use Rattle.leaps.specs.Counts.{place_of}
use Rattle.leaps.specs.Leaps.{turned_of, Goes}
use Rattle.leaps.specs.Bows.{bow_edges, bow_of, Bends}
use Rattle.leaps.proofs.LeapTests.{moved_apart}
use Rattle.leaps.proofs.Bows.{edges_size, bow_length, goes_misses, first_some}
use Rattle.half_turn.specs.Pairs.{axis_of}
use Rattle.half_turn.proofs.Rotations.{step_eight, many_next, goes_at, half_goes, half_last, half_first}

pub axis_unit : (back : Bool) → UnitLong (axis_of back)
unfolding axis_of
axis_unit false = eastward_unit
axis_unit true = westward_unit

-- ---- where every edge has length

-- half a divisor or more is not rounded to nothing
some_rounded : (z : ℤ) → 2 ^ 29 ≤ nat_abs z → 0 < nat_abs (rounded_of z (2 ^ 30))
unfolding rounded_of nearest_of
some_rounded (pos n) h = omega (arith, h)
some_rounded (negsuc n) h = omega (arith, h, abs_is (neg_ℤ (pos (nearest_of (suc n) (2 ^ 30)))), up-neg (pos (nearest_of (suc n) (2 ^ 30))), down-neg (pos (nearest_of (suc n) (2 ^ 30))))

-- what adds nothing is nothing
adds_none : (c z : ℤ) → c +ℤ z ≡ c → nat_abs z ≡ 0
adds_none c (pos n) e = omega (arith, add_balance c (pos n), ap up e, ap down e)
adds_none c (negsuc n) e = absurd (omega (arith, add_balance c (negsuc n), ap up e, ap down e))

-- a point that far off the axis is none of its points
off_axis : (c : Point) (r : ℤ) (d : Vector) → 2 ^ 29 ≤ nat_abs d.y * nat_abs r → (scaled_of c r d).y ≡ c.y → ⊥
unfolding scaled_of mul_div_of
off_axis c r d h e =
    let z = d.y *ℤ r in
    omega (arith, some_rounded z (omega (arith, h, abs_mul d.y r)), adds_none c.y (rounded_of z (2 ^ 30)) e)

differ : (p q : Point) → (p.y ≡ q.y → ⊥) → same_point p q ≡ false
differ p q h = go (same_point p q) refl
  where
    go : (x : Bool) → same_point p q ≡ x → x ≡ false
    go true e = absurd (h (ap (λ (v : Point). v.y) (same_point_lem p q e)))
    go false e = refl

-- ---- the rule of arcs there

module _ (r : Turning) (back : Bool) (h : Turns r) (e : r.step ≡ step_of 8) (f : r.toward ≡ axis_of (not back)) where
  goes : Goes 402 r.step r.toward (axis_of back)
  goes = rw (e, f) (half_goes back)

  half_stops : let d = turned_of 402 r.step (axis_of back) in stops_of d (rotated_of r.step d) r.toward ≡ true
  half_stops = rw (e, f) (half_last back).stops

  -- before the rotation at i, and before one more than 402
  pub half_go : (i : ℕ) (p : Point) {d : Vector} {q : Point} → i < 402 → d ≡ turned_of (i + 1) r.step (axis_of back) → q ≡ place_of r d
      → turns_of (1536 - i) r (turned_of i r.step (axis_of back)) p ≡ edge_of p q ++ turns_of (1536 - (i + 1)) r (turned_of (i + 1) r.step (axis_of back)) q
  half_go i p {d} {q} l j k =
      let before = turned_of i r.step (axis_of back) in
      let o : 1536 - i - 1 ≡ 1536 - (i + 1) = omega arith in
      turns_go (1536 - i) r before p (omega (arith, l)) (j ∙ many_next i r.step (axis_of back)) refl
      (ap (λ v. stops_of before v r.toward) (j ∙ many_next i r.step (axis_of back)) ∙ goes_at 402 r.step r.toward (axis_of back) goes i l) k
      ∙ (λ x. edge_of p q ++ turns_of (o x) r (j x) q)

  pub half_end : (i : ℕ) (p : Point) → i ≤ 402 → 402 ≤ i → turns_of (1536 - i) r (turned_of i r.step (axis_of back)) p ≡ edge_of p r.to
  half_end i p l m =
      let o : i ≡ 402 = omega (arith, l, m) in
      rw o (turns_stop 1134 r (turned_of 402 r.step (axis_of back)) p (omega arith) refl refl half_stops)

  -- from the radius 512 on every edge has length: p and the end lie on the axis
  module _ (p : Point) (s : 512 ≤ nat_abs r.radius) (i : p.y ≡ r.centre.y) (j : r.to.y ≡ r.centre.y) where
    moves : (v : Vector) → UnitLong v → 7 * 2 ^ 27 * (7 * 2 ^ 27) ≤ square_of v → same_point (place_of r v) (place_of r (rotated_of r.step v)) ≡ false
    moves v u l = moved_apart r v (2 ^ 21 + 1) h.radius h.step u (omega (arith, mul-le-mul_left (2 ^ 21 + 1) s)) (omega (arith, ap (λ (t : Vector). nat_abs t.y) (e ∙ sym step_eight))) l

    first-apart : same_point p (place_of r (rotated_of r.step (axis_of back))) ≡ false
    first-apart =
        let d = rotated_of r.step (axis_of back) in
        let y : nat_abs d.y ≡ 8388480 = rw e (half_first back) in
        differ p (place_of r d) (λ k. off_axis r.centre r.radius d (rw y (omega (arith, mul-le-mul_left 8388480 s))) (sym k ∙ i))

    last_apart : same_point (place_of r (turned_of 402 r.step (axis_of back))) r.to ≡ false
    last_apart =
        let d = turned_of 402 r.step (axis_of back) in
        let y : nat_abs d.y ≡ 1056154 = rw e (half_last back).height in
        differ (place_of r d) r.to (λ k. off_axis r.centre r.radius d (rw y (omega (arith, mul-le-mul_left 1056154 s))) (k ∙ j))

    last_edge : let d = turned_of 402 r.step (axis_of back) in turns_of 1134 r d (place_of r d) ≡ record { a = place_of r d; b = r.to } ∷ []
    last_edge =
        let d = turned_of 402 r.step (axis_of back) in
        turns_stop 1134 r d (place_of r d) (omega arith) refl refl half_stops ∙ edge_some (place_of r d) r.to last_apart

    half_edges : turns_of 1536 r (axis_of back) p ≡ bow_of 402 r (axis_of back) p
    unfolding turned_of Goes
    half_edges =
        let d = rotated_of r.step (axis_of back) in
        let long : 7 * 2 ^ 27 * (7 * 2 ^ 27) ≤ square_of (turned_of 402 r.step (axis_of back)) = rw e (half_last back).long in
        first_some r (axis_of back) p 401 refl refl goes.0 refl first-apart
        (goes_misses r h.step moves 401 1134 d (turned_unit h.step (axis_unit back)) goes.1 long last_edge)

    pub half_bends : Bends r (axis_of back) p 402
    half_bends = record { most = omega arith; edges = λ _. half_edges }

    pub half_size : length (spread edge_numbers (turns_of 1536 r (axis_of back) p)) ≡ 1612
    half_size =
        ap (λ (es : List Edge). length (spread edge_numbers es)) half_edges
        ∙ edges_size (bow_of 402 r (axis_of back) p)
        ∙ ap (λ (n : ℕ). n * 4) (bow_length 402 r.step r.centre r.radius r.to (axis_of back) p)

-- ---- an arc whose edges all have length

bow_go : (k : ℕ) (r : Turning) (d : Vector) (p : Point) {n : Vector} {q : Point} → 0 < k → n ≡ rotated_of r.step d → q ≡ place_of r n → bow_of k r d p ≡ record { a = p; b = q } ∷ bow_of (k - 1) r n q
unfolding bow_edges
bow_go zero r d p h e f = absurd (omega (arith, h))
bow_go (suc k) r d p h e f = rw (sub-one, f, e) refl

pub bow_on : (k i : ℕ) (r : Turning) (a : Vector) (p : Point) {d : Vector} {q : Point} → i < k → d ≡ turned_of (i + 1) r.step a → q ≡ place_of r d
    → bow_of (k - i) r (turned_of i r.step a) p ≡ (record { a = p; b = q } ∷ []) ++ bow_of (k - (i + 1)) r (turned_of (i + 1) r.step a) q
bow_on k i r a p {d} {q} h e f =
    let o : k - i - 1 ≡ k - (i + 1) = omega arith in
    bow_go (k - i) r (turned_of i r.step a) p (omega (arith, h)) (e ∙ many_next i r.step a) f ∙ (λ x. record { a = p; b = q } ∷ bow_of (o x) r (e x) q)

pub bow_end : (k i : ℕ) (r : Turning) (d : Vector) (p : Point) → k ≤ i → bow_of (k - i) r d p ≡ record { a = p; b = r.to } ∷ []
unfolding bow_edges
bow_end k i r d p h =
    let o : k - i ≡ 0 = omega (arith, h) in
    rw o refl

-- ---- along a table: i rotations are taken, to the point p, of those from i₀ and p₀ on; `rest` has the edges that so many rotations leave

pub record HalfWay (rest : ℕ → Vector → Point → List Edge) (t a : Vector) (k most : ℕ) (l₀ : List ℤ) (a₀ i₀ : ℕ) (p₀ : Point) (l : List ℤ) (n i : ℕ) (p : Point) : Type 0 where
  pub onward : Onward put edge_numbers l₀ a₀ (rest (k - i₀) (turned_of i₀ t a) p₀) l n (rest (k - i) (turned_of i t a) p)
  pub near : Near p
  pub few : i ≤ most

module _ {rest : ℕ → Vector → Point → List Edge} {t a : Vector} {k most : ℕ} {l₀ : List ℤ} {a₀ i₀ : ℕ} {p₀ : Point} where
  pub half_way_start : Near p₀ → i₀ ≤ most → HalfWay rest t a k most l₀ a₀ i₀ p₀ l₀ a₀ i₀ p₀
  half_way_start h m = record { onward = onward_start; near = h; few = m }

  pub half_way_step : {l l₁ : List ℤ} {n n₁ i : ℕ} {p q : Point} {es : List Edge} → HalfWay rest t a k most l₀ a₀ i₀ p₀ l n i p → i < most → Near q
      → rest (k - i) (turned_of i t a) p ≡ es ++ rest (k - (i + 1)) (turned_of (i + 1) t a) q → Runs put edge_numbers l n es l₁ n₁ → HalfWay rest t a k most l₀ a₀ i₀ p₀ l₁ n₁ (i + 1) q
  half_way_step w h u e f = record { onward = onward_step (onward_as e w.onward) f; near = u; few = omega (arith, h) }

-- room for what is left of it
pub half_way_room : (r : Turning) (a : Vector) (k : ℕ) {l₀ l : List ℤ} {a₀ n i : ℕ} {p₀ p : Point}
    → HalfWay (λ m d q. bow_of m r d q) r.step a k k l₀ a₀ 0 p₀ l n i p → a₀ + 4 * k + 4 ≤ length l₀ → (n + 4 * (k - i) + 4 ≤ length l) × (length l ≡ length l₀)
half_way_room r a k {i = i} {p₀ = p₀} {p = p} w h =
    let same = onward_length w.onward in (
      omega (
        arith,
        h,
        onward_pos w.onward,
        same,
        edges_size (bow_of (k - 0) r (turned_of 0 r.step a) p₀),
        bow_length (k - 0) r.step r.centre r.radius r.to (turned_of 0 r.step a) p₀,
        edges_size (bow_of (k - i) r (turned_of i r.step a) p),
        bow_length (k - i) r.step r.centre r.radius r.to (turned_of i r.step a) p,
      ),
      same,
    )

-- all of it, once its last edge is written
pub half_way_bow : (r : Turning) (a : Vector) (k : ℕ) {l₀ l l₁ : List ℤ} {a₀ n n₁ i : ℕ} {p₀ p : Point}
    → HalfWay (λ m d q. bow_of m r d q) r.step a k k l₀ a₀ 0 p₀ l n i p → k ≤ i → Runs put edge_numbers l n (record { a = p; b = r.to } ∷ []) l₁ n₁ → Runs put edge_numbers l₀ a₀ (bow_of k r a p₀) l₁ n₁
unfolding turned_of
half_way_bow r a k {i = i} {p₀ = p₀} {p = p} w h f =
    let o : k ≡ k - 0 = omega arith in
    runs_as (ap (λ m. bow_of m r a p₀) o) (onward_done (onward_as (bow_end k i r (turned_of i r.step a) p h) w.onward) f)

pub half_way_left : (r : Turning) (back : Bool) {l₀ l : List ℤ} {a₀ n i : ℕ} {p₀ p : Point} → Turns r → r.step ≡ step_of 8 → r.toward ≡ axis_of (not back)
    → HalfWay (λ m d q. turns_of m r d q) r.step (axis_of back) 1536 402 l₀ a₀ 0 p₀ l n i p → 402 ≤ i → Onward put edge_numbers l₀ a₀ (turns_of 1536 r (axis_of back) p₀) l n (edge_of p r.to)
unfolding turned_of
half_way_left r back {i = i} {p = p} h e f w k = onward_as (half_end r back h e f i p w.few k) w.onward

-- from its start, by its own name
pub half_way_all : (r : Turning) (a : Vector) {l₀ l : List ℤ} {a₀ n i : ℕ} {p₀ p : Point}
    → HalfWay (λ m d q. turns_of m r d q) r.step a 1536 402 l₀ a₀ 0 p₀ l n i p → Onward put edge_numbers l₀ a₀ (turns_of 1536 r a p₀) l n (turns_of (1536 - i) r (turned_of i r.step a) p)
unfolding turned_of
half_way_all r a w = w.onward
