-- Where an unsound store differs first: the header's first four words are what is due, then comes the count of edges, and with equal counts both
-- outlines have one length. Assumes nothing.
use mathlib.Core.Path.{◌≡◌, refl, sym, ap, ◌∙◌}
use mathlib.Core.Bool.{Bool, true, false, true≢false}
use mathlib.Core.List.{List, [], ◌∷◌, ◌++◌}
use Prim.Native.Nat.{ℕ, zero, suc, ◌+◌, ◌*◌, ◌/◌, ◌%◌, ◌^◌, ◌≤◌, ◌<◌}
use native.Mathlib.Nat.{div-div-eq-div-mul}
use native.Mathlib.Omega.{arith}
use lib.Dec.{eqb}
use lib.ListN.{length, get_or, take, drop}
use lib.Seq.{length-take-le}
use borrow.Author.Tests.{eq-eqb, eqb-true, eqb-false}
use Rattle.runs.specs.Runs.{spread}
use Rattle.contacts.specs.declared.Vertex.{Vertex}
use Rattle.outline.specs.Layout.{count_place, stroke_words, stroke_bytes, edition_word, kind_word, front_bytes, length_of}
use Rattle.outline.specs.declared.Edition.TheVariants.{First, Second}
use Rattle.outline.specs.declared.Form.{Form}
use Rattle.outline.specs.declared.Form.TheVariants.{Stroke, Kerb}
use Rattle.words.specs.Words.{four_bytes, bytes_of, words_in, word_at}
use Rattle.outline.specs.Outlines.{style_words, header_of, body_words, parts_words, table_for, edges_for, outline_words, outline_bytes}
use Rattle.outline.specs.Stores.{edition_in, kind_in, form_in, grade_in, count_in, length_in, path_in, posts_in, due_in, same_bytes, sound_of, first_differing, differing_in}
use Rattle.outline.specs.Theorems.{Bytes, DifferingInside}
use Rattle.words.proofs.Bytes.{four_back}
use Rattle.outline.proofs.ReadBack.{path_count_in, outline_length, few_edges}

-- ---- lists that are not the same differ first at a place inside both, where they are of one length

first_inside : (l m : List ℕ) → length l ≡ length m → same_bytes l m ≡ false → first_differing l m < length l
unfolding same_bytes first_differing
first_inside [] [] e f = absurd (true≢false f)
first_inside [] (b ∷ m) e f = absurd (omega arith)
first_inside (a ∷ l) [] e f = absurd (omega arith)
first_inside (a ∷ l) (b ∷ m) e f = go (eqb a b) f (first_inside l m (omega arith))
  where
    go : (x : Bool) → elim x [ true ↦ same_bytes l m | false ↦ false ] ≡ false → (same_bytes l m ≡ false → first_differing l m < length l) → elim x [ true ↦ suc (first_differing l m) | false ↦ 0 ] < suc (length l)
    go true q r = omega (arith, r q)
    go false q r = omega arith

-- what both begin with is passed
pub first-append : (p l m : List ℕ) → first_differing (p ++ l) (p ++ m) ≡ length p + first_differing l m
unfolding first_differing
first-append [] l m = omega arith
first-append (a ∷ p) l m = rw (eq-eqb a a refl, first_differing) (omega (arith, first-append p l m))

-- lists that differ in their first n places differ there first
first-below : (l m x y : List ℕ) → length l ≡ length m → (l ≡ m → ⊥) → first_differing (l ++ x) (m ++ y) < length l
unfolding first_differing
first-below [] [] x y e n = absurd (n refl)
first-below [] (b ∷ m) x y e n = absurd (omega arith)
first-below (a ∷ l) [] x y e n = absurd (omega arith)
first-below (a ∷ l) (b ∷ m) x y e n = go (eqb a b) refl (first-below l m x y (omega arith))
  where
    go : (z : Bool) → eqb a b ≡ z → ((l ≡ m → ⊥) → first_differing (l ++ x) (m ++ y) < length l) → elim z [ true ↦ suc (first_differing (l ++ x) (m ++ y)) | false ↦ 0 ] < suc (length l)
    go true p r = omega (arith, r (λ (k : l ≡ m). n (λ i. eqb-true a b p i ∷ k i)))
    go false p r = omega arith

-- ---- bytes are those of their words

digit : (w a q : ℕ) → a < 256 → w ≡ a + 256 * q → (w % 256 ≡ a) × (w / 256 ≡ q)
digit w a q h e = (omega arith, omega arith)

four_again : (a b c d : ℕ) → a < 256 → b < 256 → c < 256 → d < 256 → four_bytes (a + 256 * b + 65536 * c + 16777216 * d) ≡ a ∷ b ∷ c ∷ d ∷ []
unfolding four_bytes
four_again a b c d ha hb hc hd =
    let w = a + 256 * b + 65536 * c + 16777216 * d in
    let p = digit w a (b + 256 * (c + 256 * d)) ha (omega arith) in
    let q = digit (b + 256 * (c + 256 * d)) b (c + 256 * d) hb refl in
    let r = digit (c + 256 * d) c d hc refl in
    let e₁ : w / 256 % 256 ≡ b = rw p.1 q.0 in
    let f₂ : w / 65536 ≡ c + 256 * d = sym (div-div-eq-div-mul w 256 256) ∙ ap (λ (n : ℕ). n / 256) p.1 ∙ q.1 in
    let e₂ : w / 65536 % 256 ≡ c = rw f₂ r.0 in
    let f₃ : w / 16777216 ≡ d = sym (div-div-eq-div-mul w 65536 256) ∙ ap (λ (n : ℕ). n / 256) f₂ ∙ r.1 in
    let e₃ : w / 16777216 % 256 ≡ d = rw f₃ (omega arith) in
    λ i. p.0 i ∷ e₁ i ∷ e₂ i ∷ e₃ i ∷ []

pub words_again : (k : ℕ) (s : List ℕ) → Bytes s → 4 * k ≤ length s → take (4 * k) s ≡ bytes_of (take k (words_in s))
unfolding words_in bytes_of spread
words_again zero s h l = refl
words_again (suc k) [] h l = absurd (omega arith)
words_again (suc k) (a ∷ []) h l = absurd (omega arith)
words_again (suc k) (a ∷ b ∷ []) h l = absurd (omega arith)
words_again (suc k) (a ∷ b ∷ c ∷ []) h l = absurd (omega arith)
words_again (suc k) (a ∷ b ∷ c ∷ d ∷ s) h l =
    let e : 4 * suc k ≡ suc (suc (suc (suc (4 * k)))) = omega arith in
    rw (e, four_again a b c d h.0 h.1.0 h.1.1.0 h.1.1.1.0) (ap (λ (r : List ℕ). a ∷ b ∷ c ∷ d ∷ r) (words_again k s h.1.1.1.1 (omega arith)))

pub words_count : (s : List ℕ) (k : ℕ) → 4 * k ≤ length s → k ≤ length (words_in s)
unfolding words_in
words_count [] k h = omega arith
words_count (a ∷ []) k h = omega arith
words_count (a ∷ b ∷ []) k h = omega arith
words_count (a ∷ b ∷ c ∷ []) k h = omega arith
words_count (a ∷ b ∷ c ∷ d ∷ s) zero h = omega arith
words_count (a ∷ b ∷ c ∷ d ∷ s) (suc k) h = omega (arith, words_count s k (omega arith))

-- ---- the header's words

pub five : (ws : List ℕ) → 5 ≤ length ws → ws ≡ get_or ws 0 0 ∷ get_or ws 1 0 ∷ get_or ws 2 0 ∷ get_or ws 3 0 ∷ get_or ws 4 0 ∷ drop 5 ws
five [] h = absurd (omega arith)
five (a ∷ []) h = absurd (omega arith)
five (a ∷ b ∷ []) h = absurd (omega arith)
five (a ∷ b ∷ c ∷ []) h = absurd (omega arith)
five (a ∷ b ∷ c ∷ d ∷ []) h = absurd (omega arith)
five (a ∷ b ∷ c ∷ d ∷ e ∷ ws) h = refl

pub word_small : (s : List ℕ) (i : ℕ) → Bytes s → get_or (words_in s) i 0 < 2 ^ 32
unfolding words_in
word_small [] i h = omega arith
word_small (a ∷ []) i h = omega arith
word_small (a ∷ b ∷ []) i h = omega arith
word_small (a ∷ b ∷ c ∷ []) i h = omega arith
word_small (a ∷ b ∷ c ∷ d ∷ s) zero h = omega (arith, h.0, h.1.0, h.1.1.0, h.1.1.1.0)
word_small (a ∷ b ∷ c ∷ d ∷ s) (suc i) h = word_small s i h.1.1.1.1

four_apart : (m n : ℕ) → m < 2 ^ 32 → n < 2 ^ 32 → (m ≡ n → ⊥) → four_bytes m ≡ four_bytes n → ⊥
unfolding four_bytes
four_apart m n h k f e =
    f (sym (four_back m h) ∙ ap (λ (l : List ℕ). get_or l 0 0 + 256 * get_or l 1 0 + 65536 * get_or l 2 0 + 16777216 * get_or l 3 0) e ∙ four_back n k)

four_long : (w : ℕ) → length (four_bytes w) ≡ 4
unfolding four_bytes
four_long w = refl

abbrev Told : List ℕ → List ℕ → Type 0
Told a d = (first_differing a d < length a) × (first_differing a d < length d) × ((length a ≡ length d → ⊥) → (16 ≤ first_differing a d) × (first_differing a d < 20))

-- two outlines with m and m' edges that begin with the same sixteen bytes, and have as many bytes besides their edges
module _ (a d p x y : List ℕ) (n m m' : ℕ)
    (ea : a ≡ p ++ (four_bytes m ++ x)) (ed : d ≡ p ++ (four_bytes m' ++ y)) (lp : length p ≡ 16)
    (ln : 20 ≤ n) (la : length a ≡ n + 16 * m) (ld : length d ≡ n + 16 * m')
    (hm : m < 2 ^ 32) (hm' : m' < 2 ^ 32) (f : same_bytes a d ≡ false) where
  told : Told a d
  told = go (eqb m m') refl
    where
      go : (t : Bool) → eqb m m' ≡ t → Told a d
      go true t =
          let e : m ≡ m' = eqb-true m m' t in
          let l : length a ≡ length d = omega arith in
          let k = first_inside a d l f in
          (k, omega arith, λ u. absurd (u l))
      go false t =
          let b : first_differing (four_bytes m ++ x) (four_bytes m' ++ y) < 4 = rw (four_long m) at (first-below (four_bytes m) (four_bytes m') x y (four_long m ∙ sym (four_long m')) (four_apart m m' hm hm' (eqb-false m m' t))) in
          let k : first_differing a d ≡ 16 + first_differing (four_bytes m ++ x) (four_bytes m' ++ y) = rw (ea, ed, first-append p (four_bytes m ++ x) (four_bytes m' ++ y), lp) in
          (omega arith, omega arith, λ u. (omega arith, omega arith))

-- a header's first four words
first_of : Form → ℕ → ℕ → List ℕ
first_of f g n = bytes_of (edition_word f ∷ kind_word f ∷ g ∷ n ∷ [])

first_long : (f : Form) (g n : ℕ) → length (first_of f g n) ≡ 16
unfolding first_of bytes_of spread four_bytes
first_long f g n = refl

cut_words : (f : Form) (ws : List ℕ) (g n m j : ℕ) → ws ≡ edition_word f ∷ kind_word f ∷ g ∷ n ∷ m ∷ drop 5 ws
    → bytes_of (take (suc (suc (suc (suc (suc j))))) ws) ≡ first_of f g n ++ (four_bytes m ++ bytes_of (take j (drop 5 ws)))
unfolding first_of bytes_of spread four_bytes
cut_words f ws g n m j e = ap (λ (l : List ℕ). bytes_of (take (suc (suc (suc (suc (suc j))))) l)) e

due-words : (f : Form) (g : ℕ) (ps : List ℕ) (vs : List Vertex)
    → outline_bytes f g ps vs ≡ first_of f g (length vs) ++ (four_bytes (length (edges_for f g vs)) ++ bytes_of (style_words f ++ (table_for f g ps vs ++ body_words (edges_for f g vs))))
unfolding first_of outline_bytes outline_words parts_words header_of bytes_of spread four_bytes
due-words f g ps vs = refl

front_least : (f : Form) (n : ℕ) → 20 ≤ front_bytes f n
front_least (Stroke e) n = omega arith
front_least (Kerb y) n = omega arith

-- an outline's length in words: the first five, and j more
words_long : (f : Form) (n m : ℕ) → (j : ℕ) × (length_of f n m ≡ 4 * suc (suc (suc (suc (suc j)))))
unfolding stroke_bytes stroke_words count_place
words_long (Stroke First) n m = (1 + 4 * n + 4 * m, omega arith)
words_long (Stroke Second) n m = (1 + 5 * n + 4 * m, omega arith)
words_long (Kerb y) n m = (6 + 2 * n + 4 * m, omega arith)

pub differing_inside : DifferingInside
unfolding differing_in sound_of due_in length_in edition_in kind_in grade_in count_in word_at
differing_inside s h u =
    let ws = words_in s in
    let f = form_in s in
    let g = grade_in s in
    let n = count_in s in
    let m = word_at s 4 in
    let vs = path_in s in
    let ps = posts_in s in
    let w = words_long f n m in
    let j = w.0 in
    let enough : suc (suc (suc (suc (suc j)))) ≤ length ws = words_count s (suc (suc (suc (suc (suc j))))) (omega (arith, w.1, h.long)) in
    let head : ws ≡ edition_word f ∷ kind_word f ∷ g ∷ n ∷ m ∷ drop 5 ws = rw (h.edition, h.kind) at (five ws (omega arith)) in
    let few : length vs ≡ n = path_count_in s in
    let ea : take (length_in s) s ≡ first_of f g n ++ (four_bytes m ++ bytes_of (take j (drop 5 ws))) =
    ap (λ (i : ℕ). take i s) w.1 ∙ words_again (suc (suc (suc (suc (suc j))))) s h.bytes (omega (arith, w.1, h.long)) ∙ cut_words f ws g n m j head in
    let ed = rw few at (due-words f g ps vs) in
    let la : length (take (length_in s) s) ≡ length_in s = length-take-le (length_in s) s h.long in
    let ld : length (due_in s) ≡ length_of f n (length (edges_for f g vs)) = rw few at (outline_length f g ps vs) in
    let r = told (take (length_in s) s) (due_in s) (first_of f g n) _ _ (front_bytes f n) m (length (edges_for f g vs)) ea ed (first_long f g n) (front_least f n) la ld (word_small s 4 h.bytes) (few_edges f g vs (omega (arith, h.count))) u in
    rw la at r
