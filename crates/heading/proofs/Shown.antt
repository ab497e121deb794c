-- A store's vertices as numbers of 32 bits: entry by entry; and that a radius word of 2^31 or more is outside the limits either way it is read.
-- Assumes nothing.
use mathlib.Core.Path.{◌≡◌, refl, sym, ap, ◌∙◌}
use mathlib.Core.Bool.{Bool, true, false, ◌&&◌}
use mathlib.Core.List.{List, [], ◌∷◌, ◌++◌}
use Prim.Native.Nat.{ℕ, zero, suc, ◌+◌, ◌-◌, ◌*◌, ◌^◌, ◌≤◌, ◌<◌}
use native.Mathlib.Nat.{add-zero}
use native.Mathlib.Numerals.{add-one, add-two}
use native.Mathlib.Omega.{arith}
use borrow.Author.Tests.{ltb-false, lt-ltb, lt-leb}
use lib.Dec.{ltb, leb}
use lib.IntN.{ℤ, pos, negsuc}
use lib.Signed.{le_z, mag}
use lib.ListN.{length, get_or, set, take, drop}
use lib.Seq.{get_or-drop, drop-drop, take_at}
use mir.Syntax.{w32}
use mir.Val.{to_z, of_z}
use mir.Facts.{to_z-of_z}
use Rattle.runs.specs.Runs.{spread, over, Runs, put}
use Rattle.runs.proofs.Laws.{runs_none, runs_to}
use Rattle.runs.proofs.Onward.{Onward, onward_step, onward_as, onward_done}
use Rattle.runs.proofs.Written.{written_whole}
use Rattle.contacts.specs.Limits.{allowed_of, first_outside}
use Rattle.paths.specs.Paths.{path_of, vertex_numbers, path_numbers}
use Rattle.contacts.specs.declared.Vertex.{Vertex}
use Rattle.contacts.proofs.Allowed.{inside_of_lem, inside_first}
use Rattle.kerb.specs.declared.Style.{Style}
use Rattle.kerb_paths.specs.Points.{kerb_path}
use Rattle.outline.specs.Layout.{stroke_words, header_words, entry_words, entry_at}
use Rattle.outline.proofs.FormLengths.{entry_more}
use Rattle.outline.specs.declared.Edition.{Edition}
use Rattle.outline.specs.declared.Form.{Form}
use Rattle.outline.specs.declared.Form.TheVariants.{Stroke, Kerb}
use Rattle.words.specs.Words.{number_of, words_in, word_at}
use Rattle.outline.specs.Stores.{form_in, count_in, radius_in, entries_in, path_in}
use Rattle.heading.specs.Shows.{point_numbers, shown_radius, shown_in, shown_path, shown_at, PointShows, PointsShow}

-- ---- numbers stored: x, y and r are what the code has for them, and u, v and w for their words

number_told : {z : ℤ} {w w' : ℕ} → mag z < 2 ^ 31 → z ≡ number_of w → w ≡ w' → to_z w32 (of_z w32 z) ≡ number_of w'
number_told h e f = to_z-of_z {w = w32} (record { sfits = h }) ∙ e ∙ ap number_of f

pub vertex_shown : {l : List ℤ} {at : ℕ} (e : Edition) (s : List ℕ) (k : ℕ) {x y r : ℤ} {u v w wide : ℕ} → wide ≡ stroke_words e → mag x < 2 ^ 31 → mag y < 2 ^ 31 → mag r < 2 ^ 31 → x ≡ number_of u → y ≡ number_of v → r ≡ number_of w
    → u ≡ word_at s (5 + wide * k) → v ≡ word_at s (5 + wide * k + 1) → w ≡ word_at s (5 + wide * k + 2)
    → Runs put vertex_numbers l at (shown_at (Stroke e) s k ∷ []) (set (set (set l at (to_z w32 (of_z w32 x))) (at + 1) (to_z w32 (of_z w32 y))) (at + 2) (to_z w32 (of_z w32 r))) (at + 3)
unfolding spread over vertex_numbers shown_at shown_radius word_at
vertex_shown {at = at} e s k {wide = wide} q hx hy hr ex ey er eu ev ew =
    let fu : _ ≡ word_at s (entry_at (Stroke e) k) = eu ∙ ap (λ (n : ℕ). word_at s (5 + n * k)) q in
    let fv : _ ≡ word_at s (entry_at (Stroke e) k + 1) = ev ∙ ap (λ (n : ℕ). word_at s (5 + n * k + 1)) q in
    let fw = ew ∙ ap (λ (n : ℕ). word_at s (5 + n * k + 2)) q ∙ sym (get_or-drop (entry_at (Stroke e) k) (words_in s) 2 0) in
    record { out = cc (add-one at, add-two at, number_told hx ex fu, number_told hy ey fv, number_told hr er fw); pos = refl }

pub point_shown : {l : List ℤ} {at : ℕ} (s : List ℕ) (k : ℕ) (o : Style) {x y : ℤ} {u v : ℕ} → mag x < 2 ^ 31 → mag y < 2 ^ 31 → x ≡ number_of u → y ≡ number_of v
    → u ≡ word_at s (entry_at (Kerb o) k) → v ≡ word_at s (entry_at (Kerb o) k + 1)
    → Runs put point_numbers l at (shown_at (Kerb o) s k ∷ []) (set (set l at (to_z w32 (of_z w32 x))) (at + 1) (to_z w32 (of_z w32 y))) (at + 2)
unfolding spread over point_numbers shown_at shown_radius
point_shown {at = at} s k o hx hy ex ey eu ev = record { out = cc (add-one at, number_told hx ex eu, number_told hy ey ev); pos = refl }

-- ---- entry by entry

pub shown_next : (f : Form) (s : List ℕ) (n k : ℕ) → k < n
    → shown_in f (n - k) (drop (entry_at f k) (words_in s)) ≡ (shown_at f s k ∷ []) ++ shown_in f (n - (k + 1)) (drop (entry_at f (k + 1)) (words_in s))
unfolding shown_in shown_at word_at
shown_next (Stroke e) s n k h =
    let a : n - k ≡ suc (n - (k + 1)) = omega arith in
    let next : entry_at (Stroke e) k + entry_words (Stroke e) ≡ entry_at (Stroke e) (k + 1) = omega (arith, entry_more e k) in
    rw a (simp (get_or-drop, drop-drop, add-zero, next))
shown_next (Kerb y) s n k h =
    let a : n - k ≡ suc (n - (k + 1)) = omega arith in
    let next : entry_at (Kerb y) k + entry_words (Kerb y) ≡ entry_at (Kerb y) (k + 1) = omega arith in
    rw a (simp (get_or-drop, drop-drop, add-zero, next))

pub shown_end : (f : Form) (s : List ℕ) (n k : ℕ) → n ≤ k → shown_in f (n - k) (drop (entry_at f k) (words_in s)) ≡ []
unfolding shown_in
shown_end f s n k h = let a : n - k ≡ 0 = omega arith in rw a

-- ---- a kerb's points, whatever its style

pub record PointsOn (s : List ℕ) (n : ℕ) (l₀ l : List ℤ) (k : ℕ) : Type 0 where
  pub each : (y : Style) → Onward put point_numbers l₀ 0 (shown_in (Kerb y) n (drop 8 (words_in s))) l (2 * k) (shown_in (Kerb y) (n - k) (drop (8 + 2 * k) (words_in s)))

module _ {s : List ℕ} {n : ℕ} {l₀ l : List ℤ} {k : ℕ} (p : PointsOn s n l₀ l k) where
  pub points_on : {l₁ : List ℤ} → k < n → PointShows s k l l₁ → PointsOn s n l₀ l₁ (k + 1)
  points_on h q = record { each = λ y. onward_step (onward_as (shown_next (Kerb y) s n k h) (p.each y)) (runs_to (omega arith) (q.each y)) }

  pub points_done : n ≤ k → k ≤ n → PointsShow s n l₀ l
  points_done h m = record { each = λ y. onward_done (onward_as (shown_end (Kerb y) s n k h) (p.each y)) (runs_to (omega (arith, h, m)) runs_none) }

-- ---- the limits

neither : (p q t : Bool) → ((p && false) && t) ≡ ((p && q) && false)
neither true true t = refl
neither true false t = refl
neither false q t = refl

allowed_shown : (x y : ℤ) (r : ℕ) → allowed_of (record { x = x; y = y; radius = number_of r }) ≡ allowed_of (record { x = x; y = y; radius = pos r })
unfolding allowed_of number_of
allowed_shown x y r = go (ltb r (2 ^ 31)) refl
  where
    go : (t : Bool) → ltb r (2 ^ 31) ≡ t
        → allowed_of (record { x = x; y = y; radius = elim t [ true ↦ pos r | false ↦ negsuc (2 ^ 32 - 1 - r) ] }) ≡ allowed_of (record { x = x; y = y; radius = pos r })
    go true e = refl
    go false e =
        let f : leb r 268435456 ≡ false = lt-leb r 268435456 (omega (arith, ltb-false r (2 ^ 31) e)) in
        rw f (neither (le_z (negsuc 268435455) x && le_z x (pos 268435456) && le_z (negsuc 268435455) y && le_z y (pos 268435456)) (leb 0 r) true)

number_shown : (x y : ℤ) (r : ℕ) → allowed_of (record { x = x; y = y; radius = pos r }) ≡ true → number_of r ≡ pos r
unfolding number_of
number_shown x y r e =
    let h : r ≤ 2 ^ 28 = (inside_of_lem {v = record { x = x; y = y; radius = pos r }} e).radius.high in
    rw (lt-ltb r (2 ^ 31) (omega arith), number_of)

pub shown_count : (f : Form) (n : ℕ) (ws : List ℕ) → length (shown_in f n ws) ≡ n
unfolding shown_in
shown_count f zero ws = refl
shown_count f (suc n) ws = ap suc (shown_count f n (drop (entry_words f) ws))

-- a kerb's points are read as they are shown
points_same : (y : Style) (n : ℕ) (ws : List ℕ) → shown_in (Kerb y) n ws ≡ entries_in (Kerb y) n ws
unfolding shown_in shown_radius entries_in radius_in
points_same y zero ws = refl
points_same y (suc n) ws = ap (λ (vs : List Vertex). record { x = number_of (get_or ws 0 0); y = number_of (get_or ws 1 0); radius = y.radius } ∷ vs) (points_same y n (drop 2 ws))

pub shown_outside : (f : Form) (n : ℕ) (ws : List ℕ) → first_outside (shown_in f n ws) ≡ first_outside (entries_in f n ws)
unfolding shown_in shown_radius entries_in radius_in first_outside
shown_outside (Stroke e) zero ws = refl
shown_outside (Stroke e) (suc n) ws =
    λ i. elim (allowed_shown (number_of (get_or ws 0 0)) (number_of (get_or ws 1 0)) (get_or ws 2 0) i) [ true ↦ suc (shown_outside (Stroke e) n (drop (stroke_words e) ws) i) | false ↦ 0 ]
shown_outside (Kerb y) n ws = ap first_outside (points_same y n ws)

shown_same : (f : Form) (n : ℕ) (ws : List ℕ) → first_outside (entries_in f n ws) ≡ length (entries_in f n ws) → shown_in f n ws ≡ entries_in f n ws
unfolding shown_in shown_radius entries_in radius_in
shown_same (Stroke e) zero ws h = refl
shown_same (Stroke e) (suc n) ws h =
    let x = number_of (get_or ws 0 0) in
    let y = number_of (get_or ws 1 0) in
    let f = inside_first (record { x = x; y = y; radius = pos (get_or ws 2 0) }) (entries_in (Stroke e) n (drop (stroke_words e) ws)) h in
    λ i. record { x = x; y = y; radius = number_shown x y (get_or ws 2 0) f.0 i } ∷ shown_same (Stroke e) n (drop (stroke_words e) ws) f.1 i
shown_same (Kerb y) n ws h = points_same y n ws

pub shown_path_lem : (s : List ℕ) → first_outside (path_in s) ≡ length (path_in s) → shown_path s ≡ path_in s
unfolding shown_path path_in
shown_path_lem s h = shown_same (form_in s) (count_in s) (drop (header_words (form_in s)) (words_in s)) h

-- ---- a path as numbers

pub path_back : (vs : List Vertex) → path_of (path_numbers vs) ≡ vs
unfolding path_of path_numbers vertex_numbers spread
path_back [] = refl
path_back (v ∷ vs) = ap (λ us. v ∷ us) (path_back vs)

pub points_back : (y : Style) (n : ℕ) (ws : List ℕ) → kerb_path y.radius (spread point_numbers (shown_in (Kerb y) n ws)) ≡ shown_in (Kerb y) n ws
unfolding kerb_path point_numbers spread shown_in shown_radius
points_back y zero ws = refl
points_back y (suc n) ws = ap (λ (vs : List Vertex). record { x = number_of (get_or ws 0 0); y = number_of (get_or ws 1 0); radius = y.radius } ∷ vs) (points_back y n (drop 2 ws))

-- the things stand at the front of the numbers that they were written into
pub path_front : {g : Vertex → List ℤ} {l₀ l₁ : List ℤ} {n : ℕ} {vs : List Vertex} → Runs put g l₀ 0 vs l₁ n → n ≤ length l₀ → take n l₁ ≡ spread g vs
path_front {g} {l₀} {l₁} {n} {vs} p h =
    ap (take n) (written_whole p (omega (arith, p.pos))) ∙ take_at (spread g vs) (drop (length (spread g vs)) l₀) n (omega (arith, p.pos))
