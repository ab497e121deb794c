-- What leaps count is an arc whose edges all have length. Assumes nothing.
use mathlib.Core.Path.{◌≡◌, refl, sym, ap, ◌∙◌}
use mathlib.Core.Bool.{Bool, true, false}
use mathlib.Core.List.{List, [], ◌∷◌, ◌++◌}
use Prim.Native.Nat.{ℕ, zero, suc, ◌+◌, ◌-◌, ◌*◌, ◌^◌, ◌≤◌, ◌<◌}
use native.Mathlib.Nat.{zero-add}
use native.Mathlib.Omega.{arith}
use lib.IntN.{ℤ}
use lib.ListN.{length}
use Rattle.runs.specs.Runs.{spread}
use Rattle.plane.specs.Vectors.{same_point, square_of}
use Rattle.plane.specs.Directions.{rotated_of, UnitLong, scaled_of}
use Rattle.plane.proofs.Directions.{turned_unit}
use Rattle.plane.specs.declared.Point.{Point}
use Rattle.plane.specs.declared.Vector.{Vector}
use Rattle.turning.specs.Edges.{edge_numbers, edge_of}
use Rattle.turning.specs.Arcs.{stops_of, turns_of}
use Rattle.leaps.specs.Counts.{place_of}
use Rattle.leaps.specs.Landings.{Misses, Hits}
use Rattle.leaps.specs.Leaps.{turned_of, Goes, Comes, Ends, Long, Moves}
use Rattle.leaps.specs.Bows.{bow_edges, bow_of, Bends, BendsOn}
use Rattle.turning.specs.declared.Edge.{Edge}
use Rattle.turning.specs.declared.Turning.{Turning}
use Rattle.turning.proofs.Cases.{turns_go, turns_stop}
use Rattle.leaps.proofs.Leaping.{many_unit, many_no_longer}
use Rattle.turning.proofs.Rays.{same_point_lem}
use Rattle.turning.proofs.Stored.{edge_none, edge_some}
use Rattle.runs.proofs.Laws.{spread-length}

-- ---- how many

pub edges_size : (es : List Edge) → length (spread edge_numbers es) ≡ length es * 4
unfolding edge_numbers
edges_size es = spread-length edge_numbers 4 (λ e. refl) es

pub bow_length : (n : ℕ) (t : Vector) (c : Point) (r : ℤ) (q : Point) (d : Vector) (p : Point) → length (bow_edges n t c r q d p) ≡ n + 1
unfolding bow_edges
bow_length zero t c r q d p = refl
bow_length (suc n) t c r q d p =
    let next = rotated_of t d in
    omega (arith, bow_length n t c r q next (scaled_of c r next))

-- ---- rotations that all go on

module _ (r : Turning) (ht : UnitLong r.step)
    (f : (v : Vector) → UnitLong v → 7 * 2 ^ 27 * (7 * 2 ^ 27) ≤ square_of v → same_point (place_of r v) (place_of r (rotated_of r.step v)) ≡ false) where
  -- the first of n rotations or more
  go_first : (n m : ℕ) (d : Vector) → UnitLong d → Goes (suc n) r.step r.toward d → 7 * 2 ^ 27 * (7 * 2 ^ 27) ≤ square_of (turned_of (suc n) r.step d)
      → turns_of (suc n + m) r d (place_of r d)
      ≡ record { a = place_of r d; b = place_of r (rotated_of r.step d) } ∷ turns_of (n + m) r (rotated_of r.step d) (place_of r (rotated_of r.step d))
  unfolding Goes
  go_first n m d hd g l =
      let next = rotated_of r.step d in
      let e : turns_of (suc n + m) r d (place_of r d) ≡ edge_of (place_of r d) (place_of r next) ++ turns_of (suc n + m - 1) r next (place_of r next)
      = turns_go (suc n + m) r d (place_of r d) (omega arith) refl refl g.0 refl in
      let i : suc n + m - 1 ≡ n + m = omega arith in
      let s = f d hd (omega (arith, l, many_no_longer (suc n) r.step d ht)) in
      e
      ∙ ap (λ es. es ++ turns_of (suc n + m - 1) r next (place_of r next)) (edge_some (place_of r d) (place_of r next) s)
      ∙ ap (λ k. record { a = place_of r d; b = place_of r next } ∷ turns_of k r next (place_of r next)) i

  -- then one edge to the end
  pub goes_misses : (n m : ℕ) (d : Vector) → UnitLong d → Goes n r.step r.toward d → 7 * 2 ^ 27 * (7 * 2 ^ 27) ≤ square_of (turned_of n r.step d)
      → turns_of m r (turned_of n r.step d) (place_of r (turned_of n r.step d)) ≡ record { a = place_of r (turned_of n r.step d); b = r.to } ∷ []
      → turns_of (n + m) r d (place_of r d) ≡ bow_of n r d (place_of r d)
  unfolding turned_of Goes bow_edges
  goes_misses zero m d hd g l e = ap (λ k. turns_of k r d (place_of r d)) (zero-add m) ∙ e
  goes_misses (suc n) m d hd g l e =
      let next = rotated_of r.step d in
      go_first n m d hd g l ∙ ap (λ es. record { a = place_of r d; b = place_of r next } ∷ es) (goes_misses n m next (turned_unit ht hd) g.1 l e)

  -- then none, since the last of them comes to it
  goes_hits : (n m : ℕ) (d : Vector) → UnitLong d → Goes (suc n) r.step r.toward d → 7 * 2 ^ 27 * (7 * 2 ^ 27) ≤ square_of (turned_of (suc n) r.step d)
      → place_of r (turned_of (suc n) r.step d) ≡ r.to
      → turns_of m r (turned_of (suc n) r.step d) (place_of r (turned_of (suc n) r.step d)) ≡ []
      → turns_of (suc n + m) r d (place_of r d) ≡ bow_of n r d (place_of r d)
  unfolding turned_of Goes bow_edges
  goes_hits zero m d hd g l p e =
      let next = rotated_of r.step d in
      go_first zero m d hd g l
      ∙ ap (λ k. record { a = place_of r d; b = place_of r next } ∷ turns_of k r next (place_of r next)) (zero-add m)
      ∙ (λ i. record { a = place_of r d; b = p i } ∷ e i)
  goes_hits (suc n) m d hd g l p e =
      let next = rotated_of r.step d in
      go_first (suc n) m d hd g l ∙ ap (λ es. record { a = place_of r d; b = place_of r next } ∷ es) (goes_hits n m next (turned_unit ht hd) g.1 l p e)

-- ---- what leaps tell

pub bends_none : {r : Turning} {d : Vector} {p : Point} → Bends r d p 0
bends_none = record { most = omega arith; edges = λ h. absurd (omega (arith, h)) }

pub bends_on_none : {r : Turning} {d : Vector} → BendsOn r d 0
bends_on_none = record { most = omega arith; edges = λ h. absurd (omega (arith, h)) }

module _ (r : Turning) (d v : Vector) (n a : ℕ) {x y z : Bool} (ht : UnitLong r.step) (hd : UnitLong d) (h : Comes r.step r.toward d n a v)
    (hm : Moves r x) (i : x ≡ true) (he : Ends r.step r.toward v a y) (j : y ≡ true) (hl : Long v a z) (k : z ≡ true) where
  last_turn : turns_of (1535 - n) r (turned_of n r.step d) (place_of r (turned_of n r.step d)) ≡ edge_of (place_of r (turned_of n r.step d)) r.to
  last_turn =
      let last = turned_of n r.step d in
      turns_stop (1535 - n) r last (place_of r last) (omega (arith, h.turns)) refl refl (he.ends j last h.near)

  pub bends_misses : {w : Bool} → Misses r v a w → w ≡ true → BendsOn r d (n + 1)
  bends_misses g l =
      let last = turned_of n r.step d in
      let m = 1535 - n in
      let e : 1535 ≡ n + m = omega (arith, h.turns) in
      let o : n ≡ n + 1 - 1 = omega arith in
      let s = g.misses l last (many_unit n r.step d ht hd) h.near in
      record {
        most = omega (arith, h.turns);
        edges = λ _. ap (λ l. turns_of l r d (place_of r d)) e
            ∙ goes_misses r ht (hm.moves i) n m d hd h.goes (hl.long k last h.near) (last_turn ∙ edge_some (place_of r last) r.to s)
            ∙ ap (λ l. bow_of l r d (place_of r d)) o;
      }

bends_hits_at : (r : Turning) (d v : Vector) (n a : ℕ) {x y z w : Bool} → UnitLong r.step → UnitLong d → Comes r.step r.toward d (suc n) a v
    → Moves r x → x ≡ true → Ends r.step r.toward v a y → y ≡ true → Long v a z → z ≡ true → Hits r v a w → w ≡ true
    → turns_of 1535 r d (place_of r d) ≡ bow_of n r d (place_of r d)
bends_hits_at r d v n a ht hd h hm i he j hl k g l =
    let last = turned_of (suc n) r.step d in
    let m = 1535 - suc n in
    let e : 1535 ≡ suc n + m = omega (arith, h.turns) in
    let s = g.hits l last (many_unit (suc n) r.step d ht hd) h.near in
    ap (λ l. turns_of l r d (place_of r d)) e
    ∙ goes_hits r ht (hm.moves i) n m d hd h.goes (hl.long k last h.near) (same_point_lem (place_of r last) r.to s)
    (last_turn r d v (suc n) a ht hd h hm i he j hl k ∙ edge_none (place_of r last) r.to s)

pub bends_hits : (r : Turning) (d v : Vector) (n a : ℕ) {x y z w : Bool} → UnitLong r.step → UnitLong d → Comes r.step r.toward d n a v
    → Moves r x → x ≡ true → Ends r.step r.toward v a y → y ≡ true → Long v a z → z ≡ true → Hits r v a w → w ≡ true
    → BendsOn r d n
bends_hits r d v zero a ht hd h hm i he j hl k g l = bends_on_none
bends_hits r d v (suc n) a ht hd h hm i he j hl k g l =
    let o : n ≡ suc n - 1 = omega arith in
    record {
      most = omega (arith, h.turns);
      edges = λ _. bends_hits_at r d v n a ht hd h hm i he j hl k g l ∙ ap (λ l. bow_of l r d (place_of r d)) o;
    }

-- its last edge and one for each rotation but the first
pub bends_count : {r : Turning} {d : Vector} {n : ℕ} → BendsOn r d n → 0 < n → length (spread edge_numbers (turns_of 1535 r d (place_of r d))) ≡ 4 * n
bends_count {r} {d} {n} b h =
    omega (
      arith,
      ap (λ (es : List Edge). length (spread edge_numbers es)) (b.edges h),
      edges_size (bow_of (n - 1) r d (place_of r d)),
      bow_length (n - 1) r.step r.centre r.radius r.to d (place_of r d),
    )

-- ---- one rotation before

pub first_some : (r : Turning) (d : Vector) (p : Point) (n : ℕ) {t : Vector} {q : Point} {x : Bool} → t ≡ rotated_of r.step d → x ≡ stops_of d t r.toward → x ≡ false
    → q ≡ place_of r t → same_point p q ≡ false → turns_of 1535 r t (place_of r t) ≡ bow_of n r t (place_of r t) → turns_of 1536 r d p ≡ bow_of (suc n) r d p
unfolding bow_edges
first_some r d p n {t} {q} e f g h k b =
    turns_go 1536 r d p (omega arith) e f g h
    ∙ ap (λ es. es ++ turns_of 1535 r t q) (edge_some p q k)
    ∙ (λ i. record { a = p; b = h i } ∷ turns_of 1535 r t (h i))
    ∙ ap (λ es. record { a = p; b = place_of r t } ∷ es) b
    ∙ (λ i. record { a = p; b = place_of r (e i) } ∷ bow_of n r (e i) (place_of r (e i)))

pub bends_first : (r : Turning) (d : Vector) (p : Point) (n : ℕ) {t : Vector} {q : Point} {x y : Bool} → t ≡ rotated_of r.step d → x ≡ stops_of d t r.toward → x ≡ false
    → q ≡ place_of r t → y ≡ same_point p q → y ≡ false → BendsOn r t n → Bends r d p n
bends_first r d p zero e f g h k l b = bends_none
bends_first r d p (suc n) {t} e f g h k l b =
    let o : suc n - 1 ≡ n = omega arith in
    record {
      most = b.most;
      edges = λ s. first_some r d p n e f g h (sym k ∙ l) (b.edges s ∙ ap (λ l. bow_of l r t (place_of r t)) o);
    }
