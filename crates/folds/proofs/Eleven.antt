-- An arc whose edges all have length stands folded in eleven numbers. Assumes nothing.
use mathlib.Core.Path.{◌≡◌, refl, sym, ap, ◌∙◌}
use mathlib.Core.Bool.{Bool, true, true≢false}
use mathlib.Core.List.{List, [], ◌∷◌, append-nil}
use Prim.Native.Nat.{ℕ, suc, ◌+◌, ◌^◌, ◌≤◌, ◌<◌}
use native.Mathlib.Omega.{arith}
use lib.IntN.{ℤ, pos}
use lib.ListN.{length, set}
use mir.Syntax.{w32}
use mir.Val.{to_z}
use mir.Facts.{to_z-of_z, to_z_pos}
use Rattle.whole.specs.Sizes.{Size}
use Rattle.whole.proofs.Sizes.{size_fits}
use Rattle.runs.specs.Runs.{Runs, Room, spread, over, put}
use Rattle.plane.specs.Vectors.{Near}
use Rattle.plane.specs.Directions.{UnitLong}
use Rattle.plane.proofs.Products.{bits, back, short_fits}
use Rattle.plane.specs.declared.Point.{Point}
use Rattle.plane.specs.declared.Vector.{Vector}
use Rattle.turning.specs.Edges.{edge_numbers}
use Rattle.turning.specs.Arcs.{turns_of}
use Rattle.turning.specs.Bounds.{Turns}
use Rattle.leaps.specs.Bows.{bow_edges, bow_of, Bends}
use Rattle.folds.specs.Folds.{fold_edges, fold_numbers, mark, SoundBow, SoundFold, SoundFolds}
use Rattle.folds.specs.Pens.{Lays}
use Rattle.folds.specs.declared.Bow.{Bow}
use Rattle.turning.specs.declared.Edge.{Edge}
use Rattle.folds.specs.declared.Fold.TheVariants.{Bent}
use Rattle.turning.specs.declared.Turning.{Turning}
use Rattle.leaps.proofs.Bows.{edges_size, bow_length}
use Rattle.turning.proofs.Limits.{radius_back, radius_told_lem}
use Rattle.turning.proofs.Stored.{number}

-- ---- where an arc stands folded

-- three edges or more are twelve numbers
pub room_bow : {r : Turning} {d : Vector} {p : Point} {n at : ℕ} → 2 ≤ n → Bends r d p n → Room edge_numbers at (turns_of 1536 r d p) → at + 11 < 2 ^ 64
room_bow {r} {d} {p} {n} h b k =
    omega (
      arith,
      h,
      k.fits,
      ap (λ (es : List Edge). length (spread edge_numbers es)) (b.edges (omega (arith, h))),
      edges_size (bow_of n r d p),
      bow_length n r.step r.centre r.radius r.to d p,
    )

-- its arc, with the radius's bits
abbrev pub held_bow : Turning → Vector → Point → ℕ → Bow
held_bow r d p n = record { turns = n; direction = d; centre = r.centre; radius = bits r.radius; from = p; to = r.to }

pub bow_sound : {r : Turning} {d : Vector} {p : Point} {n : ℕ} → 2 ≤ n → Turns r → UnitLong d → Near p → Bends r d p n → SoundBow (held_bow r d p n)
bow_sound h k u l b = record { least = h; most = b.most; direction = u; centre = k.centre; radius = radius_told_lem k.radius; from = l; to = k.to }

bow_edges_lem : (r : Turning) (d : Vector) (p : Point) (n : ℕ) → Turns r → bow_of n r d p ≡ spread (fold_edges r.step) (Bent (held_bow r d p n) ∷ [])
unfolding spread fold_edges
bow_edges_lem r d p n k =
    sym (append-nil (bow_edges n r.step r.centre (bits r.radius) r.to d p) ∙ ap (λ (s : ℤ). bow_edges n r.step r.centre s r.to d p) (radius_back k.radius))

pub lays_bow : {r : Turning} {d : Vector} {p : Point} {n at a₁ : ℕ} {l₀ l₁ : List ℤ} → 2 ≤ n → Turns r → UnitLong d → Near p → Bends r d p n
    → Runs put fold_numbers l₀ at (Bent (held_bow r d p n) ∷ []) l₁ a₁ → Lays r.step true l₀ at (turns_of 1536 r d p) l₁ a₁
unfolding SoundFolds SoundFold
lays_bow {r} {d} {p} {n} h k u l b m = record {
  held = Bent (held_bow r d p n) ∷ [];
  sound = (bow_sound h k u l b, tt);
  edges = b.edges (omega (arith, h)) ∙ bow_edges_lem r d p n k;
  plain = λ e. absurd (true≢false e);
  made = m;
}

-- it may be folded, or may not
pub lays_may : {t : Vector} {x : Bool} {l₀ l₁ : List ℤ} {a₀ a₁ : ℕ} {es : List Edge} → x ≡ true → Lays t true l₀ a₀ es l₁ a₁ → Lays t x l₀ a₀ es l₁ a₁
lays_may e p = rw e p

-- ---- eleven numbers

pub shortened : {r z : ℤ} → Size (2 ^ 30) z → r ≡ bits z → number r ≡ z
shortened {r} {z} h e =
    let f : r ≡ z = e ∙ back (short_fits h) in
    rw f (to_z-of_z (size_fits (2 ^ 30) w32 _ h tt))

pub counted_whole : (n : ℕ) → n ≤ 1535 → to_z w32 n ≡ pos n
counted_whole n h = to_z_pos w32 (omega (arith, h))

pub pair_stored : (l₀ : List ℤ) {l₁ l₂ : List ℤ} (at : ℕ) {x y a b : ℤ} → x ≡ a → y ≡ b → l₁ ≡ set l₀ at x → l₂ ≡ set l₁ (at + 1) y → l₂ ≡ set (set l₀ at a) (at + 1) b
pair_stored l₀ at {x} {y} e f p q = q ∙ ap (λ (l : List ℤ). set l (at + 1) y) p ∙ (λ i. set (set l₀ at (e i)) (at + 1) (f i))

pub bow_stored : {l₀ l₁ l₂ l₃ l₄ l₅ l₆ l₇ : List ℤ} {at : ℕ} (b : Bow) {m t r : ℤ} → m ≡ mark → t ≡ pos b.turns → r ≡ b.radius
    → l₁ ≡ set l₀ at m → l₂ ≡ set l₁ (at + 1) t
    → l₃ ≡ set (set l₂ (at + 2) b.direction.x) (at + 2 + 1) b.direction.y
    → l₄ ≡ set (set l₃ (at + 4) b.centre.x) (at + 4 + 1) b.centre.y
    → l₅ ≡ set l₄ (at + 6) r
    → l₆ ≡ set (set l₅ (at + 7) b.from.x) (at + 7 + 1) b.from.y
    → l₇ ≡ set (set l₆ (at + 9) b.to.x) (at + 9 + 1) b.to.y
    → Runs put fold_numbers l₀ at (Bent b ∷ []) l₇ (at + 11)
unfolding spread over fold_numbers
bow_stored {at = at} b em et er p q s u v w x =
    let n1 : at + 1 ≡ suc at = omega arith in
    let n2 : at + 2 ≡ suc (suc at) = omega arith in
    let n3 : at + 2 + 1 ≡ suc (suc (suc at)) = omega arith in
    let n4 : at + 4 ≡ suc (suc (suc (suc at))) = omega arith in
    let n5 : at + 4 + 1 ≡ suc (suc (suc (suc (suc at)))) = omega arith in
    let n6 : at + 6 ≡ suc (suc (suc (suc (suc (suc at))))) = omega arith in
    let n7 : at + 7 ≡ suc (suc (suc (suc (suc (suc (suc at)))))) = omega arith in
    let n8 : at + 7 + 1 ≡ suc (suc (suc (suc (suc (suc (suc (suc at))))))) = omega arith in
    let n9 : at + 9 ≡ suc (suc (suc (suc (suc (suc (suc (suc (suc at)))))))) = omega arith in
    let n10 : at + 9 + 1 ≡ suc (suc (suc (suc (suc (suc (suc (suc (suc (suc at))))))))) = omega arith in
    record {
      out = cc (n1, n2, n3, n4, n5, n6, n7, n8, n9, n10, em, et, er, p, q, s, u, v, w, x);
      pos = refl;
    }
