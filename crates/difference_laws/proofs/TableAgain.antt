-- A table is that of its own vertices and posts once its counts are those of the bodies. Assumes nothing.
use mathlib.Core.Path.{◌≡◌, refl, sym, ap, ◌∙◌}
use mathlib.Core.Bool.{Bool, true, false}
use mathlib.Core.List.{List, [], ◌∷◌}
use Prim.Native.Nat.{ℕ, zero, suc, ◌+◌, ◌-◌, ◌*◌, ◌^◌, ◌≤◌, ◌<◌}
use native.Mathlib.Nat.{add-zero}
use native.Mathlib.Numerals.{add-one}
use native.Mathlib.Omega.{arith}
use borrow.Author.Tests.{lt-ltb, le-ltb}
use lib.Dec.{ltb}
use lib.IntN.{ℤ, pos, negsuc}
use lib.ListN.{length, get_or, take, drop}
use lib.Seq.{get_or-drop, drop-drop}
use Rattle.turning.specs.declared.Edge.{Edge}
use Rattle.words.specs.Words.{word_of, number_of, words_in, word_at}
use Rattle.outline.specs.Layout.{count_place, stroke_words}
use Rattle.outline.specs.Outlines.{post_words, entry_of, table_of}
use Rattle.outline.specs.Stores.{edition_in, edition_of, count_in, radius_in, entries_in, post_in, posts_from, edges_in}
use Rattle.outline.specs.declared.Edition.{Edition}
use Rattle.outline.specs.declared.Edition.TheVariants.{First, Second}
use Rattle.outline.specs.declared.Form.TheVariants.{Stroke}
use Rattle.outline.proofs.FormLengths.{entry_more}
use Rattle.difference_laws.proofs.NothingDiffers.{Same}

-- ---- a word from its number

word_again : (w : ℕ) → w < 2 ^ 32 → word_of (number_of w) ≡ w
unfolding number_of word_of
word_again w h = go (ltb w (2 ^ 31)) refl
  where
    go : (t : Bool) → ltb w (2 ^ 31) ≡ t → word_of (elim t as (λ _. ℤ) [ true ↦ pos w | false ↦ negsuc (2 ^ 32 - 1 - w) ]) ≡ w
    go true e = omega (arith, h)
    go false e = omega (arith, h)

radius_again : (w : ℕ) → w < 2 ^ 32 → word_of (pos w) ≡ w
unfolding word_of
radius_again w h = omega (arith, h)

-- ---- the table, entry by entry

abbrev pub Counts : Edition → ℕ → List ℕ → List (List Edge) → Type 0
Counts e n ws [] = ⊥
Counts e zero ws (b ∷ bs) = get_or ws 0 0 ≡ length b
Counts e (suc n) ws (b ∷ bs) = (get_or ws (count_place e) 0 ≡ length b) × Counts e n (drop (stroke_words e) ws) bs

last_again : (e : Edition) (ps ws : List ℕ) (b : List Edge) (bs : List (List Edge)) → stroke_words e * 0 + 1 ≤ length ws → get_or ws 0 0 ≡ length b → take (stroke_words e * 0 + 1) ws ≡ table_of e ps [] (b ∷ bs)
unfolding table_of
last_again e ps [] b bs h k = absurd (omega arith)
last_again e ps (w ∷ ws) b bs h k = let z : stroke_words e * 0 + 1 ≡ 1 = omega arith in rw z (ap (λ (x : ℕ). x ∷ []) k)

pub table_again : (e : Edition) (n : ℕ) (ws : List ℕ) (bs : List (List Edge)) → ((i : ℕ) → get_or ws i 0 < 2 ^ 32) → stroke_words e * n + 1 ≤ length ws → Counts e n ws bs
    → take (stroke_words e * n + 1) ws ≡ table_of e (posts_from (Stroke e) n ws) (entries_in (Stroke e) n ws) bs
unfolding table_of entry_of post_words posts_from post_in entries_in radius_in stroke_words count_place
table_again e n ws [] h l k = absurd k
table_again e zero ws (b ∷ bs) h l k = last_again e (posts_from (Stroke e) 0 ws) ws b bs l k
table_again First (suc n) [] (b ∷ bs) h l k = absurd (omega arith)
table_again First (suc n) (x ∷ []) (b ∷ bs) h l k = absurd (omega arith)
table_again First (suc n) (x ∷ y ∷ []) (b ∷ bs) h l k = absurd (omega arith)
table_again First (suc n) (x ∷ y ∷ r ∷ []) (b ∷ bs) h l k = absurd (omega arith)
table_again First (suc n) (x ∷ y ∷ r ∷ c ∷ ws) (b ∷ bs) h l k =
    let z : 4 * suc n + 1 ≡ suc (suc (suc (suc (4 * n + 1)))) = omega arith in
    let more = table_again First n ws bs (λ i. h (suc (suc (suc (suc i))))) (omega arith) k.1 in
    rw z (λ i. sym (word_again x (h 0)) i ∷ sym (word_again y (h 1)) i ∷ sym (radius_again r (h 2)) i ∷ k.0 i ∷ more i)
table_again Second (suc n) [] (b ∷ bs) h l k = absurd (omega arith)
table_again Second (suc n) (x ∷ []) (b ∷ bs) h l k = absurd (omega arith)
table_again Second (suc n) (x ∷ y ∷ []) (b ∷ bs) h l k = absurd (omega arith)
table_again Second (suc n) (x ∷ y ∷ r ∷ []) (b ∷ bs) h l k = absurd (omega arith)
table_again Second (suc n) (x ∷ y ∷ r ∷ p ∷ []) (b ∷ bs) h l k = absurd (omega arith)
table_again Second (suc n) (x ∷ y ∷ r ∷ p ∷ c ∷ ws) (b ∷ bs) h l k =
    let z : 5 * suc n + 1 ≡ suc (suc (suc (suc (suc (5 * n + 1))))) = omega arith in
    let more = table_again Second n ws bs (λ i. h (suc (suc (suc (suc (suc i)))))) (omega arith) k.1 in
    rw z (λ i. sym (word_again x (h 0)) i ∷ sym (word_again y (h 1)) i ∷ sym (radius_again r (h 2)) i ∷ p ∷ k.0 i ∷ more i)

-- ---- the counts of a store

module _ (s : List ℕ) where
  edition : Edition
  edition = edition_of (edition_in s)

  wide : ℕ
  wide = stroke_words edition

  past : ℕ → ℕ → ℕ
  past i j = get_or (drop (wide * i) (drop 5 (words_in s))) j 0

  word_past : (i j : ℕ) → word_at s (5 + wide * i + j) ≡ past i j
  unfolding word_at past
  word_past i j = sym (get_or-drop (wide * i) (drop 5 (words_in s)) j 0 ∙ get_or-drop 5 (words_in s) (wide * i + j) 0 ∙ ap (λ (k : ℕ). get_or (words_in s) k 0) (omega arith))

  vertex_edges : (i : ℕ) → i < count_in s → edges_in s i ≡ past i (count_place edition)
  unfolding edges_in edition wide
  vertex_edges i h = rw (lt-ltb i (count_in s) h, edges_in) (word_past i (count_place edition))

  closing_edges : (i : ℕ) → i ≡ count_in s → edges_in s i ≡ past i 0
  unfolding edges_in edition wide
  closing_edges i z = rw (z, le-ltb (count_in s) (count_in s) (omega arith), edges_in) (ap (word_at s) (sym (add-zero (5 + wide * count_in s))) ∙ word_past (count_in s) 0)

  next : (i : ℕ) → drop wide (drop (wide * i) (drop 5 (words_in s))) ≡ drop (wide * suc i) (drop 5 (words_in s))
  unfolding wide
  next i = drop-drop wide (wide * i) (drop 5 (words_in s)) ∙ ap (λ (k : ℕ). drop k (drop 5 (words_in s))) (sym (entry_more edition i) ∙ ap (λ (k : ℕ). wide * k) (add-one i))

  counts_from_lem : (k i : ℕ) (bs : List (List Edge)) → i + k ≡ count_in s → length bs ≡ suc k → Same s i bs → Counts edition k (drop (wide * i) (drop 5 (words_in s))) bs
  unfolding past wide
  counts_from_lem k i [] e l h = absurd (omega arith)
  counts_from_lem zero i (b ∷ bs) e l h = sym (closing_edges i (omega arith)) ∙ h.0
  counts_from_lem (suc k) i (b ∷ bs) e l h =
      let r = counts_from_lem k (suc i) bs (omega arith) (omega arith) h.2 in
      (sym (vertex_edges i (omega arith)) ∙ h.0, rw (next i) r)

  pub counts_same : (bs : List (List Edge)) → length bs ≡ suc (count_in s) → Same s 0 bs → Counts (edition_of (edition_in s)) (count_in s) (drop 5 (words_in s)) bs
  unfolding edition wide
  counts_same bs l h =
      let z : wide * 0 ≡ 0 = omega arith in
      rw z at (counts_from_lem (count_in s) 0 bs (omega arith) l h)
