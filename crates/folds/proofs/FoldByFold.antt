-- Own numbers taken fold by fold: their edges counted, and written. Assumes nothing.
use mathlib.Core.Path.{◌≡◌, refl, sym, ap, ◌∙◌}
use mathlib.Core.Bool.{Bool, true}
use mathlib.Core.List.{List, [], ◌∷◌, ◌++◌, append_assoc}
use Prim.Native.Nat.{ℕ, zero, suc, ◌+◌, ◌-◌, ◌*◌, ◌≤◌, ◌<◌}
use native.Mathlib.Omega.{arith}
use lib.IntN.{ℤ, pos}
use lib.ListN.{length, drop, length-append, take-append-drop}
use lib.Seq.{drop-drop, drop-append_seam, length-take-le}
use lib.Signed.{lt_z}
use Rattle.runs.specs.Runs.{spread, Runs, put}
use Rattle.runs.proofs.Laws.{spread-append, runs_none, runs_then}
use Rattle.runs.proofs.Onward.{Onward, onward_start, onward_step, onward_as, onward_done, onward_pos}
use Rattle.runs.proofs.Written.{written-length, onward_length}
use Rattle.plane.specs.Vectors.{Near}
use Rattle.plane.specs.Directions.{UnitLong, rotated_of, scaled_of}
use Rattle.plane.specs.Swings.{swing_of, heading_of, Swings}
use Rattle.plane.proofs.Products.{bits, back, short_fits}
use Rattle.plane.proofs.Directions.{unit_short}
use Rattle.plane.specs.declared.Point.{Point}
use Rattle.plane.specs.declared.Vector.{Vector}
use Rattle.plane.specs.declared.rotation.Swing.{Swing}
use Rattle.turning.specs.Edges.{edge_numbers, point_numbers}
use Rattle.turning.specs.Bounds.{Reach}
use Rattle.leaps.specs.Bows.{bow_edges}
use Rattle.half_turn.specs.Pairs.{axis_of, Axial}
use Rattle.folds.specs.Folds.{fold_edges, fold_numbers, SoundBow, SoundFold, SoundFolds, Holds, RoomFor, Stands, Finds, size_of, Sizes, Unfolds}
use Rattle.turning.specs.declared.Edge.{Edge}
use Rattle.folds.specs.declared.Bow.{Bow}
use Rattle.folds.specs.declared.Fold.{Fold}
use Rattle.folds.specs.declared.Fold.TheVariants.{Straight, Bent}
use Rattle.turning.proofs.Limits.{radius_back, point_is, point_reach, swing_told, swing_unit}
use Rattle.folds.proofs.ReadBack.{fold_size, folds_size, folds_some, same_folds, sizes_most, sizes_of}
use Rattle.turning.proofs.Stored.{point_past}

-- ---- fold by fold

-- from j on the first m numbers of l hold these folds
pub record Left (l : List ℤ) (m j : ℕ) (rest : List Fold) : Type 0 where
  pub sound : SoundFolds rest
  pub numbers : drop j l ≡ spread fold_numbers rest ++ drop m l
  pub past : j + length (spread fold_numbers rest) ≡ m

-- f is the first of them
pub record Taken (l : List ℤ) (m j : ℕ) (rest : List Fold) (f : Fold) : Type 0 where
  pub tail : List Fold
  pub split : rest ≡ f ∷ tail
  pub sound : SoundFold f
  pub left : Left l m (j + length (fold_numbers f)) tail

module _ {l : List ℤ} {m : ℕ} where
  left_start : (h : Holds l m) → Left l m 0 h.held
  left_start h = record {
    sound = h.sound;
    numbers = sym (take-append-drop m l) ∙ ap (λ xs. xs ++ drop m l) h.numbers;
    past = omega (arith, ap length h.numbers, length-take-le m l h.whole);
  }

  left_most : {j : ℕ} {rest : List Fold} → Left l m j rest → j ≤ m
  left_most h = omega (arith, h.past)

  left_stands : {j : ℕ} (rest : List Fold) → Left l m j rest → j < m → Stands l j
  unfolding SoundFolds spread
  left_stands [] h k = absurd (omega (arith, h.past))
  left_stands (f ∷ fs) h k = record { fold = f; sound = h.sound.0; rest = spread fold_numbers fs ++ drop m l; numbers = h.numbers ∙ append_assoc (fold_numbers f) (spread fold_numbers fs) (drop m l) }

  left_tail : {j : ℕ} (f : Fold) (fs : List Fold) → Left l m j (f ∷ fs) → Left l m (j + length (fold_numbers f)) fs
  unfolding SoundFolds spread
  left_tail {j} f fs h = record {
    sound = h.sound.1;
    numbers = sym (drop-drop (length (fold_numbers f)) j l)
        ∙ ap (drop (length (fold_numbers f))) (h.numbers ∙ append_assoc (fold_numbers f) (spread fold_numbers fs) (drop m l))
        ∙ drop-append_seam (fold_numbers f) (spread fold_numbers fs ++ drop m l);
    past = omega (arith, h.past, length-append (fold_numbers f) (spread fold_numbers fs));
  }

  left_step : {j : ℕ} {f : Fold} (rest : List Fold) → Left l m j rest → j < m → Finds l j f → Taken l m j rest f
  unfolding SoundFolds spread
  left_step [] h k r = absurd (omega (arith, h.past))
  left_step {j} {f} (g ∷ gs) h k r =
      let e : f ≡ g = r.reads g h.sound.0 (spread fold_numbers gs ++ drop m l) (h.numbers ∙ append_assoc (fold_numbers g) (spread fold_numbers gs) (drop m l)) in
      rw e (record { tail = gs; split = refl; sound = h.sound.0; left = left_tail g gs h })

  left_none : {j : ℕ} (rest : List Fold) → Left l m j rest → m ≤ j → rest ≡ []
  left_none [] h k = refl
  left_none (f ∷ fs) h k = absurd (omega (arith, h.past, folds_some f fs))

-- ---- counted

-- n numbers are counted of the edges before j
pub record Counting (l : List ℤ) (m j n : ℕ) : Type 0 where
  pub holds : Holds l m
  pub rest : List Fold
  pub left : Left l m j rest
  pub count : n + sizes_of rest ≡ sizes_of holds.held

module _ {l : List ℤ} {m : ℕ} where
  pub counting_start : Holds l m → Counting l m 0 0
  counting_start h = record { holds = h; rest = h.held; left = left_start h; count = omega arith }

  module _ {j n : ℕ} (c : Counting l m j n) where
    pub counting_most : (j ≤ m) × (n ≤ 1536 * m)
    counting_most = (left_most c.left, omega (arith, c.count, sizes_most c.holds.held c.holds.sound, (left_start c.holds).past))

    module _ (k : j < m) where
      pub counting_stands : Stands l j
      counting_stands = left_stands c.rest c.left k

      module _ {f : Fold} (r : Finds l j f) where
        pub counting_sound : SoundFold f
        counting_sound = (left_step c.rest c.left k r).sound

        pub counting_step : {s w : ℕ} → s ≡ size_of f → w ≡ length (fold_numbers f) → Counting l m (j + w) (n + s)
        unfolding sizes_of
        counting_step e d =
            let t = left_step c.rest c.left k r in
            rw (e, d) (record { holds = c.holds; rest = t.tail; left = t.left; count = omega (arith, c.count, ap sizes_of t.split) })

    pub counting_done : m ≤ j → Sizes l m n
    unfolding sizes_of
    counting_done k = record {
      size = λ t fs h e.
          let s : fs ≡ c.holds.held = same_folds fs c.holds.held h c.holds.sound (sym e ∙ c.holds.numbers) in
          omega (arith, c.count, ap sizes_of (left_none c.rest c.left k), ap sizes_of s, folds_size t fs);
    }

-- ---- written

-- the edges before j are written into l₀
pub record Unfolding (t : Vector) (l : List ℤ) (m : ℕ) (l₀ : List ℤ) (j : ℕ) (l₁ : List ℤ) (n : ℕ) : Type 0 where
  pub holds : Holds l m
  pub rest : List Fold
  pub left : Left l m j rest
  pub room : sizes_of holds.held ≤ length l₀
  pub onward : Onward put edge_numbers l₀ 0 (spread (fold_edges t) holds.held) l₁ n (spread (fold_edges t) rest)

module _ {t : Vector} {l : List ℤ} {m : ℕ} {l₀ : List ℤ} where
  pub unfolding_start : Holds l m → RoomFor t l m (length l₀) → Unfolding t l m l₀ 0 l₀ 0
  unfolding_start h r = record {
    holds = h;
    rest = h.held;
    left = left_start h;
    room = omega (arith, folds_size t h.held, r.enough h.held h.sound h.numbers);
    onward = onward_start;
  }

  module _ {j n : ℕ} {l₁ : List ℤ} (c : Unfolding t l m l₀ j l₁ n) where
    pub unfolding_most : j ≤ m
    unfolding_most = left_most c.left

    pub unfolding_length : length l₁ ≡ length l₀
    unfolding_length = onward_length c.onward

    pub unfolding_done : m ≤ j → Unfolds t l m l₀ l₁ n
    unfolding spread
    unfolding_done k = record {
      unfolds = λ fs h e.
          let s : c.holds.held ≡ fs = same_folds c.holds.held fs c.holds.sound h (sym c.holds.numbers ∙ e) in
          let o : Onward put edge_numbers l₀ 0 (spread (fold_edges t) c.holds.held) l₁ n [] = onward_as (ap (spread (fold_edges t)) (left_none c.rest c.left k)) c.onward in
          rw s at (onward_done o runs_none);
    }

    module _ (k : j < m) where
      pub unfolding_stands : Stands l j
      unfolding_stands = left_stands c.rest c.left k

      module _ {f : Fold} (r : Finds l j f) where
        pub unfolding_sound : SoundFold f
        unfolding_sound = (left_step c.rest c.left k r).sound

        unfolding_on : Onward put edge_numbers l₀ 0 (spread (fold_edges t) c.holds.held) l₁ n (fold_edges t f ++ spread (fold_edges t) (left_step c.rest c.left k r).tail)
        unfolding spread
        unfolding_on = onward_as (ap (spread (fold_edges t)) (left_step c.rest c.left k r).split) c.onward

        pub unfolding_room : n + size_of f ≤ length l₁
        unfolding_room =
            let fs = (left_step c.rest c.left k r).tail in
            omega (
              arith,
              onward_pos unfolding_on,
              unfolding_length,
              c.room,
              folds_size t c.holds.held,
              fold_size t f,
              ap length (spread-append edge_numbers (fold_edges t f) (spread (fold_edges t) fs)),
              length-append (spread edge_numbers (fold_edges t f)) (spread edge_numbers (spread (fold_edges t) fs)),
            )

        pub unfolding_step : {l₂ : List ℤ} {n₂ w : ℕ} → Runs put edge_numbers l₁ n (fold_edges t f) l₂ n₂ → w ≡ length (fold_numbers f) → Unfolding t l m l₀ (j + w) l₂ n₂
        unfolding_step p d =
            let s = left_step c.rest c.left k r in
            rw d (record { holds = c.holds; rest = s.tail; left = s.left; room = c.room; onward = onward_step unfolding_on p })

-- ---- an arc's edges, point by point

-- what is left to write past its first point: n points, to the first of which the swing s comes, each as an edge's end and the next one's start;
-- and then q
unfoldable pub rest_points : ℕ → Vector → Point → ℤ → Point → Swing → List Point
rest_points zero t c r q s = q ∷ []
rest_points (suc n) t c r q s =
    let d = heading_of s in
    let x = scaled_of c r d in
    x ∷ x ∷ rest_points n t c r q (swing_of t d)

-- with its first point those are the numbers of its edges
bow_points : (n : ℕ) (t : Vector) (c : Point) (r : ℤ) (q : Point) (d : Vector) (p : Point) → spread edge_numbers (bow_edges n t c r q d p) ≡ spread point_numbers (p ∷ rest_points n t c r q (swing_of t d))
unfolding spread edge_numbers point_numbers bow_edges rest_points rotated_of swing_of heading_of
bow_points zero t c r q d p = refl
bow_points (suc n) t c r q d p =
    let next = rotated_of t d in
    let x = scaled_of c r next in
    ap (λ (zs : List ℤ). p.x ∷ p.y ∷ x.x ∷ x.y ∷ zs) (bow_points n t c r q next x)

module _ (t : Vector) (c : Point) (r : ℤ) (q : Point) where
  rest_size : (n : ℕ) (s : Swing) → length (spread point_numbers (rest_points n t c r q s)) ≡ 4 * n + 2
  unfolding spread point_numbers rest_points
  rest_size zero s = refl
  rest_size (suc n) s = omega (arith, rest_size n (swing_of t (heading_of s)))

  rest_end : (n : ℕ) (s : Swing) → n ≤ 0 → rest_points n t c r q s ≡ q ∷ []
  unfolding rest_points
  rest_end zero s h = refl
  rest_end (suc n) s h = absurd (omega arith)

  rest_go : (n : ℕ) (s : Swing) {d : Vector} {x : Point} {s₁ : Swing} → 0 < n → d ≡ heading_of s → x ≡ scaled_of c r d → s₁ ≡ swing_of t d → rest_points n t c r q s ≡ x ∷ x ∷ rest_points (n - 1) t c r q s₁
  unfolding rest_points
  rest_go zero s h i k l = absurd (omega arith)
  rest_go (suc n) s h i k l = let m : suc n - 1 ≡ n = omega arith in rw (l, k, i, m) refl

-- k rotations are left, the next of them by the swing s, of k₀ from s₀ on
pub record Bowing (t : Vector) (b : Bow) (l₀ : List ℤ) (a₀ k₀ : ℕ) (s₀ : Swing) (l : List ℤ) (a k : ℕ) (s : Swing) : Type 0 where
  pub onward : Onward put point_numbers l₀ a₀ (rest_points k₀ t b.centre b.radius b.to s₀) l a (rest_points k t b.centre b.radius b.to s)
  pub reach : Swings s
  pub unit : UnitLong (heading_of s)

module _ {t : Vector} {b : Bow} {l₀ : List ℤ} {a₀ k₀ : ℕ} {s₀ : Swing} where
  pub bowing_start : UnitLong t → SoundBow b → s₀ ≡ swing_of t b.direction → Bowing t b l₀ a₀ k₀ s₀ l₀ a₀ (k₀ - 0) s₀
  bowing_start h k e = let o : k₀ - 0 ≡ k₀ = omega arith in rw o (record { onward = onward_start; reach = swing_told h k.direction e; unit = swing_unit h k.direction e })

  module _ {l : List ℤ} {a k : ℕ} {s : Swing} (w : Bowing t b l₀ a₀ k₀ s₀ l a k s) where
    -- room for what is left of it
    pub bowing_room : {l' : List ℤ} {at : ℕ} {p : Point} → Runs put point_numbers l' at (p ∷ []) l₀ a₀ → at + 4 * k₀ + 4 ≤ length l' → a + 4 * k + 2 ≤ length l
    bowing_room f h =
        omega (
          arith,
          point_past f,
          written-length f,
          onward_pos w.onward,
          onward_length w.onward,
          rest_size t b.centre b.radius b.to k₀ s₀,
          rest_size t b.centre b.radius b.to k s,
        )

    -- the direction that is next, and its point
    pub bowing_unit : {d : Vector} → d ≡ heading_of s → UnitLong d
    bowing_unit e = rw e w.unit

    pub bowing_near : {d : Vector} {q : Point} → SoundBow b → d ≡ heading_of s → q ≡ scaled_of b.centre (bits b.radius) d → Near q
    bowing_near h e f = point_reach h.centre h.radius (bowing_unit e) f

    pub bowing_step : {d : Vector} {q : Point} {s₁ : Swing} {l₁ l₂ : List ℤ} {n₁ n₂ : ℕ} → {j : ℕ} → UnitLong t → SoundBow b → k ≡ j + 1 → d ≡ heading_of s → q ≡ scaled_of b.centre (bits b.radius) d → s₁ ≡ swing_of t d
        → Runs put point_numbers l a (q ∷ []) l₁ n₁ → Runs put point_numbers l₁ n₁ (q ∷ []) l₂ n₂ → Bowing t b l₀ a₀ k₀ s₀ l₂ n₂ j s₁
    bowing_step {d} {j = n} u z h i j e f g =
        let v = bowing_unit i in
        let o : n ≡ k - 1 = omega arith in
        rw o (record {
          onward = onward_step (onward_step (onward_as (rest_go t b.centre b.radius b.to k s (omega arith) i (point_is b.centre d z.radius j) e) w.onward) f) g;
          reach = swing_told u v e;
          unit = swing_unit u v e;
        })

    pub bowing_done : {l' l₁ : List ℤ} {at n : ℕ} → k ≤ 0 → s₀ ≡ swing_of t b.direction → Runs put point_numbers l' at (b.from ∷ []) l₀ a₀ → Runs put point_numbers l a (b.to ∷ []) l₁ n
        → Runs put edge_numbers l' at (bow_edges k₀ t b.centre b.radius b.to b.direction b.from) l₁ n
    bowing_done h e f g =
        let r = runs_then f (onward_done (onward_as (rest_end t b.centre b.radius b.to k s h) w.onward) g) in
        let x = bow_points k₀ t b.centre b.radius b.to b.direction b.from in
        record { out = rw (x, ← e) r.out; pos = rw (x, ← e) r.pos }

-- ---- an arc from due east or due west: y is the test of that

pub bow_axial : (t : Vector) (b : Bow) {y : Bool} → SoundBow b → Axial b.direction y → y ≡ true
    → bow_edges b.turns t b.centre b.radius b.to b.direction b.from
    ≡ bow_edges b.turns t b.centre (bits b.radius) b.to (axis_of (lt_z (bits b.direction.x) (pos 0))) b.from
bow_axial t b h g e =
    let r = sym (radius_back h.radius) in
    let d = g.axial e ∙ ap (λ (z : ℤ). axis_of (lt_z z (pos 0))) (sym (back (short_fits (unit_short h.direction).x))) in
    λ i. bow_edges b.turns t b.centre (r i) b.to (d i) b.from

-- ---- a fold's edges, by its case

pub width_straight : {f : Fold} {e : Edge} → f ≡ Straight e → 4 ≡ length (fold_numbers f)
unfolding fold_numbers edge_numbers
width_straight e = rw e refl

pub width_bent : {f : Fold} {b : Bow} → f ≡ Bent b → 11 ≡ length (fold_numbers f)
unfolding fold_numbers
width_bent e = rw e refl

pub size_straight : {f : Fold} {e : Edge} → f ≡ Straight e → 4 ≡ size_of f
unfolding size_of
size_straight e = rw e refl

pub size_bent : {f : Fold} {b : Bow} → f ≡ Bent b → 4 * b.turns + 4 ≡ size_of f
unfolding size_of
size_bent e = rw e refl

pub straight_sound : {f : Fold} {e : Edge} → f ≡ Straight e → SoundFold f → Reach e
unfolding SoundFold
straight_sound e h = rw e at h

pub bent_sound : {f : Fold} {b : Bow} → f ≡ Bent b → SoundFold f → SoundBow b
unfolding SoundFold
bent_sound e h = rw e at h

pub straight_edge : {f : Fold} {e : Edge} (t : Vector) → f ≡ Straight e → fold_edges t f ≡ e ∷ []
unfolding fold_edges
straight_edge t e = rw e refl

pub bent_edges : {f : Fold} {b : Bow} (t : Vector) → f ≡ Bent b → fold_edges t f ≡ bow_edges b.turns t b.centre b.radius b.to b.direction b.from
unfolding fold_edges
bent_edges t e = rw e refl
