-- Records in lent numbers: one more of them, and all of them. Assumes nothing.
use mathlib.Core.Path.{◌≡◌, refl, sym, ap, ◌∙◌}
use mathlib.Core.Bool.{Bool, true, false}
use mathlib.Core.List.{List, [], ◌∷◌, ◌++◌, append-nil}
use Prim.Native.Nat.{ℕ, ◌+◌, ◌-◌, ◌*◌, ◌^◌, ◌≤◌, ◌<◌}
use native.Mathlib.Nat.{zero-add, mul_comm}
use native.Mathlib.Numerals.{add-one, add-two}
use native.Mathlib.Omega.{arith}
use lib.Dec.{ltb}
use lib.IntN.{ℤ, pos, negsuc}
use lib.ListN.{length, get_or, set, take}
use lib.Seq.{take-suc, length-take-le}
use Rattle.runs.specs.Runs.{spread, over, put}
use Rattle.runs.proofs.Laws.{spread-append, spread-length, over-append}
use Rattle.runs.proofs.Written.{over_comm}
use Rattle.words.specs.Words.{number_of, word_of, words_of}
use Rattle.words.proofs.NumberRuns.{words-append}
use Rattle.records.specs.Records.{record_numbers, record_posts, post_numbers, PutsRecord, Gathers}
use Rattle.records.specs.declared.Record.{Record}

-- what stands past the end of a path, where a law has to name something
abbrev pub origin : Record
origin = record { x = pos 0; y = pos 0; radius = pos 0; number = 0 }

-- a record is three numbers and a post
pub record_three : (v : Record) → length (record_numbers v) ≡ 3
unfolding record_numbers
record_three v = refl

pub records_three : (vs : List Record) → length (spread record_numbers vs) ≡ 3 * length vs
records_three vs = spread-length record_numbers 3 record_three vs ∙ mul_comm (length vs) 3

pub posts_one : (vs : List Record) → length (spread post_numbers vs) ≡ length vs
unfolding post_numbers
posts_one vs = let e : length (spread post_numbers vs) ≡ length vs * 1 = spread-length post_numbers 1 (λ v. refl) vs in omega (arith, e)

pub posts_many : (vs : List Record) → length (spread record_posts vs) ≡ length vs
unfolding record_posts
posts_many vs = let e : length (spread record_posts vs) ≡ length vs * 1 = spread-length record_posts 1 (λ v. refl) vs in omega (arith, e)

-- a word is that of its number
word_again : (w : ℕ) → w < 2 ^ 32 → word_of (number_of w) ≡ w
unfolding word_of number_of
word_again w h = go (ltb w (2 ^ 31)) refl
  where
    go : (b : Bool) → ltb w (2 ^ 31) ≡ b → word_of (elim b [ true ↦ pos w | false ↦ negsuc (2 ^ 32 - 1 - w) ]) ≡ w
    go true e = omega (arith, h)
    go false e = omega (arith, h)

-- a record is four stores
pub record_stored : (l : List ℤ) (m k : ℕ) (v : Record) {at : ℕ} {x y radius post : ℤ} → at ≡ 3 * k → x ≡ v.x → y ≡ v.y → radius ≡ v.radius → post ≡ number_of v.number → v.number < 2 ^ 32
    → PutsRecord l m k v (set (set (set (set l at x) (at + 1) y) (at + 2) radius) (3 * m + k) post)
unfolding over record_numbers post_numbers record_posts words_of
record_stored l m k v {at} ea ex ey er ep h = record {
  out = rw (ea, ex, ey, er, ep, add-one (3 * k), add-two (3 * k));
  words = ap (λ (w : ℕ). w ∷ []) (word_again v.number h);
}

-- none gathered
pub gathered_none : (l : List ℤ) (m : ℕ) (path : List Record) → Gathers l m (take 0 path) l
unfolding spread over words_of
gathered_none l m path = record { out = refl; words = refl }

-- one thing more of a list that is spread
spread_more : {A : Type 0} (g : Record → List A) (path : List Record) (i : ℕ) → i < length path → spread g (take (i + 1) path) ≡ spread g (take i path) ++ g (get_or path i origin)
unfolding spread
spread_more g path i h =
    let v = get_or path i origin in
    ap (λ (vs : List Record). spread g vs) (ap (λ (k : ℕ). take k path) (add-one i) ∙ take-suc path i origin h)
    ∙ spread-append g (take i path) (v ∷ [])
    ∙ ap (λ r. spread g (take i path) ++ r) (append-nil (g v))

-- one record more of a path whose records are gathered from the first on
pub gathered_more : (l₀ : List ℤ) (m : ℕ) (path : List Record) (i : ℕ) {l l₁ : List ℤ} → i < m → i < length path → Gathers l₀ m (take i path) l → PutsRecord l m i (get_or path i origin) l₁
    → Gathers l₀ m (take (i + 1) path) l₁
unfolding post_numbers
gathered_more l₀ m path i {l} {l₁} less h e f =
    let v = get_or path i origin in
    let ns = spread record_numbers (take i path) in
    let ps = spread post_numbers (take i path) in
    let few : length (take i path) ≡ i = length-take-le i path (omega (arith, h)) in
    let at : 3 * i ≡ 0 + length ns = sym (zero-add (length ns) ∙ records_three (take i path) ∙ ap (λ (n : ℕ). 3 * n) few) in
    let past : 3 * m + i ≡ 3 * m + length ps = ap (λ (n : ℕ). 3 * m + n) (sym (posts_one (take i path) ∙ few)) in
    let room : 3 * i + length (record_numbers v) ≤ 3 * m = omega (arith, record_three v, less) in
    record {
      out =
          f.out
          ∙ ap (λ (s : List ℤ). over put (over put s (3 * i) (record_numbers v)) (3 * m + i) (post_numbers v)) e.out
          ∙ ap (λ (s : List ℤ). over put s (3 * m + i) (post_numbers v)) (over_comm (over put l₀ 0 ns) (3 * i) (record_numbers v) (3 * m) ps room)
          ∙ ap (λ (k : ℕ). over put (over put (over put (over put l₀ 0 ns) k (record_numbers v)) (3 * m) ps) (3 * m + i) (post_numbers v)) at
          ∙ ap (λ (s : List ℤ). over put (over put s (3 * m) ps) (3 * m + i) (post_numbers v)) (over-append put l₀ 0 ns (record_numbers v))
          ∙ ap (λ (k : ℕ). over put (over put (over put l₀ 0 (ns ++ record_numbers v)) (3 * m) ps) k (post_numbers v)) past
          ∙ over-append put (over put l₀ 0 (ns ++ record_numbers v)) (3 * m) ps (post_numbers v)
          ∙ (λ i'. over put (over put l₀ 0 (sym (spread_more record_numbers path i h) i')) (3 * m) (sym (spread_more post_numbers path i h) i'));
      words =
          ap words_of (spread_more post_numbers path i h)
          ∙ words-append ps (post_numbers v)
          ∙ (λ i'. e.words i' ++ f.words i')
          ∙ sym (spread_more record_posts path i h);
    }
