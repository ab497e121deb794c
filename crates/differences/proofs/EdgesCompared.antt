-- The edges of one body, compared as numbers, and its old count, read in its table. Assumes nothing.
use mathlib.Core.Path.{◌≡◌, refl, sym, ap, ◌∙◌}
use mathlib.Core.Bool.{Bool, true, false}
use mathlib.Core.List.{List, [], ◌∷◌}
use Prim.Native.Nat.{ℕ, zero, suc, ◌+◌, ◌-◌, ◌*◌, ◌≤◌, ◌<◌, min}
use native.Mathlib.Nat.{min-eq_left, min-eq_right}
use native.Mathlib.Omega.{arith}
use borrow.Author.Tests.{leb-true, leb-false, eq-eqb, ne_eqb, lt-ltb, le-ltb}
use lib.Dec.{eqb, leb}
use lib.IntN.{ℤ}
use lib.ListN.{length, take, drop}
use lib.Seq.{take_all, take-length, take-take, length-take-le}
use Rattle.runs.specs.Runs.{spread, Runs, agree}
use Rattle.turning.specs.Edges.{edge_numbers}
use Rattle.turning.specs.declared.Edge.{Edge}
use Rattle.words.specs.Words.{word_of, words_of, four_bytes, bytes_of, word_at}
use Rattle.words.proofs.Bytes.{bytes-length}
use Rattle.words.proofs.NumberRuns.{words-length}
use Rattle.outline.specs.Layout.{count_place, stroke_words, stroke_bytes, entry_at, front_bytes}
use Rattle.outline.specs.Outlines.{body_words}
use Rattle.outline.specs.Stores.{count_in, same_bytes, first_differing, edges_in}
use Rattle.outline.specs.declared.Edition.{Edition}
use Rattle.outline.specs.declared.Edition.TheVariants.{First, Second}
use Rattle.outline.specs.declared.Form.TheVariants.{Stroke}
use Rattle.comparing.proofs.FirstByte.{agree-first}
use Rattle.differences.specs.Differences.{count_number, edges_number, edges_differ, total_number, difference_of}
use Rattle.differences.specs.Bodies.{Fronted, OwnEdges, EdgesTold, DifferenceTold}

-- ---- lists that are the same as far as one goes, by where they differ first

pub same_true : (l m : List ℕ) → length m ≤ first_differing l m → same_bytes (take (length m) l) m ≡ true
unfolding same_bytes first_differing
same_true l [] h = refl
same_true [] (b ∷ m) h = absurd (omega arith)
same_true (a ∷ l) (b ∷ m) h = go (eqb a b) h (same_true l m)
  where
    go : (t : Bool) → suc (length m) ≤ elim t [ true ↦ suc (first_differing l m) | false ↦ 0 ] → (length m ≤ first_differing l m → same_bytes (take (length m) l) m ≡ true) → elim t [ true ↦ same_bytes (take (length m) l) m | false ↦ false ] ≡ true
    go true k r = r (omega arith)
    go false k r = absurd (omega arith)

pub same_false : (l m : List ℕ) → first_differing l m < length m → same_bytes (take (length m) l) m ≡ false
unfolding same_bytes first_differing
same_false l [] h = absurd (omega arith)
same_false [] (b ∷ m) h = refl
same_false (a ∷ l) (b ∷ m) h = go (eqb a b) h (same_false l m)
  where
    go : (t : Bool) → elim t [ true ↦ suc (first_differing l m) | false ↦ 0 ] < suc (length m) → (first_differing l m < length m → same_bytes (take (length m) l) m ≡ false) → elim t [ true ↦ same_bytes (take (length m) l) m | false ↦ false ] ≡ false
    go true k r = r (omega arith)
    go false k r = refl

-- ---- the words of a body's first edges

body-first : (j : ℕ) (es : List Edge) → body_words (take j es) ≡ take (4 * j) (body_words es)
unfolding body_words words_of spread edge_numbers
body-first zero es = refl
body-first (suc j) [] = let e : 4 * suc j ≡ suc (suc (suc (suc (4 * j)))) = omega arith in rw e refl
body-first (suc j) (b ∷ es) = let e : 4 * suc j ≡ suc (suc (suc (suc (4 * j)))) = omega arith in rw e (ap (λ (r : List ℕ). word_of b.a.x ∷ word_of b.a.y ∷ word_of b.b.x ∷ word_of b.b.y ∷ r) (body-first j es))

words-first : (j : ℕ) (l : List ℤ) → words_of (take j l) ≡ take j (words_of l)
unfolding words_of
words-first zero l = refl
words-first (suc j) [] = refl
words-first (suc j) (z ∷ l) = ap (λ (r : List ℕ). word_of z ∷ r) (words-first j l)

take_min : {A : Type 0} (n : ℕ) (l : List A) → take n l ≡ take (min n (length l)) l
take_min n l = go (leb n (length l)) refl
  where
    go : (t : Bool) → leb n (length l) ≡ t → take n l ≡ take (min n (length l)) l
    go true e = ap (λ k. take k l) (sym (min-eq_left (leb-true n (length l) e)))
    go false e =
        let h : length l ≤ n = omega (arith, leb-false n (length l) e) in
        take_all n l h ∙ sym (take-length l) ∙ ap (λ k. take k l) (sym (min-eq_right h))

module _ {l : List ℤ} {due : ℕ} (old : ℕ) {few : ℕ} {es : List Edge} (q : few ≡ min old due) (o : OwnEdges l due es) where
  own_first : body_words (take old es) ≡ words_of (take (4 * few) l)
  own_first =
      ap body_words (take_min old es ∙ ap (λ (k : ℕ). take (min old k) es) o.count ∙ ap (λ (k : ℕ). take k es) (sym q))
      ∙ body-first few es
      ∙ ap (take (4 * few)) o.words
      ∙ sym (words-first (4 * few) (take (4 * due) l))
      ∙ ap words_of (take-take (4 * few) (4 * due) l (omega arith))

  module _ (s : List ℕ) (at : ℕ) {good end : ℕ} (room : 4 * due ≤ length l) (p : Runs (agree s) four_bytes at at (words_of (take (4 * few) l)) good end) where
    long : length (bytes_of (body_words (take old es))) ≡ 16 * few
    long = ap (λ (ws : List ℕ). length (bytes_of ws)) own_first ∙ omega (arith, bytes-length (words_of (take (4 * few) l)), words-length (take (4 * few) l), length-take-le (4 * few) l (omega arith))

    first : good ≡ at + first_differing (drop at s) (bytes_of (body_words (take old es)))
    unfolding bytes_of
    first = p.out ∙ agree-first s at _ ∙ ap (λ (ws : List ℕ). at + first_differing (drop at s) (spread four_bytes ws)) (sym own_first)

    differ_here : good < at + 16 * few → 2 ≡ edges_number (edges_differ s at old es)
    unfolding edges_number edges_differ
    differ_here h = rw (same_false (drop at s) (bytes_of (body_words (take old es))) (omega (arith, first, long))) refl

    differ_nowhere : at + 16 * few ≤ good → 0 ≡ edges_number (edges_differ s at old es)
    unfolding edges_number edges_differ
    differ_nowhere h = rw (same_true (drop at s) (bytes_of (body_words (take old es))) (omega (arith, first, long))) refl

module _ {l : List ℤ} {due : ℕ} (old : ℕ) {few : ℕ} (q : few ≡ min old due) (s : List ℕ) (at : ℕ) {good end : ℕ} (room : 4 * due ≤ length l) (p : Runs (agree s) four_bytes at at (words_of (take (4 * few) l)) good end) where
  pub edges_differ_lem : good < at + 16 * few → EdgesTold l due old s at 2
  edges_differ_lem h = record { few = omega arith; each = λ es o. differ_here old q o s at room p h }

  pub edges_same : at + 16 * few ≤ good → EdgesTold l due old s at 0
  edges_same h = record { few = omega arith; each = λ es o. differ_nowhere old q o s at room p h }

-- ---- numbers of what differs

pub counts_same : {old due : ℕ} → old ≡ due → 0 ≡ count_number old due
unfolding count_number
counts_same {old} {due} e = rw (eq-eqb old due e, count_number)

pub counts_differ : {old due : ℕ} → (old ≡ due → ⊥) → 1 ≡ count_number old due
unfolding count_number
counts_differ {old} {due} h = rw (ne_eqb old due h, count_number)

pub totals_same : {old due : ℕ} → old ≡ due → 0 ≡ total_number old due
unfolding total_number
totals_same {old} {due} e = rw (eq-eqb old due e, total_number)

pub totals_differ : {old due : ℕ} → (old ≡ due → ⊥) → 4 ≡ total_number old due
unfolding total_number
totals_differ {old} {due} h = rw (ne_eqb old due h, total_number)

pub count_small : (old due : ℕ) → count_number old due ≤ 1
unfolding count_number
count_small old due = go (eqb old due)
  where
    go : (t : Bool) → elim t [ true ↦ 0 | false ↦ 1 ] ≤ 1
    go true = omega arith
    go false = omega arith

pub both_told : {l : List ℤ} {due old : ℕ} {s : List ℕ} {at a b : ℕ} → a ≡ count_number old due → EdgesTold l due old s at b → DifferenceTold l due old s at (a + b)
unfolding difference_of
both_told {old = old} e p = record { each = λ es o. (λ i. (e ∙ ap (count_number old) (sym o.count)) i + p.each es o i) }

-- ---- the old count of a body

place_few : (e : Edition) (n i l : ℕ) → n ≤ 4096 → front_bytes (Stroke e) n ≤ l → i ≤ n → (stroke_words e * i ≤ 20480) × (4 * (5 + stroke_words e * i) + 4 ≤ l)
unfolding stroke_bytes stroke_words count_place
place_few First n i l h k m = (omega arith, omega arith)
place_few Second n i l h k m = (omega arith, omega arith)

place_last : (e : Edition) (n i l : ℕ) → n ≤ 4096 → front_bytes (Stroke e) n ≤ l → i < n → 4 * (5 + stroke_words e * i + (stroke_words e - 1)) + 4 ≤ l
unfolding stroke_bytes stroke_words count_place
place_last First n i l h k m = omega arith
place_last Second n i l h k m = omega arith

wide_few : (e : Edition) → (1 ≤ stroke_words e) × (stroke_words e ≤ 5)
unfolding stroke_words count_place
wide_few First = (omega arith, omega arith)
wide_few Second = (omega arith, omega arith)

module _ {s : List ℕ} {e : Edition} {n wide : ℕ} (f : Fronted s e n) (ew : wide ≡ stroke_words e) (i : ℕ) where
  pub places : i ≤ n → (wide * i ≤ 20480) × (4 * (5 + wide * i) + 4 ≤ length s) × (1 ≤ wide) × (wide ≤ 5)
  places h =
      let p = place_few e n i (length s) f.few f.long h in
      rw ew (p.0, p.1, (wide_few e).0, (wide_few e).1)

  pub last_place : i < n → 4 * (5 + wide * i + (wide - 1)) + 4 ≤ length s
  last_place h = rw ew (place_last e n i (length s) f.few f.long h)

  pub vertex_count : {w : ℕ} → i < n → w ≡ word_at s (5 + wide * i + (wide - 1)) → w ≡ edges_in s i
  unfolding edges_in stroke_words
  vertex_count h q =
      let j : 5 + wide * i + (wide - 1) ≡ entry_at (Stroke e) i + count_place e = rw ew (omega arith) in
      q ∙ ap (word_at s) j ∙ rw (f.edition, lt-ltb i (count_in s) (rw f.count at h), edges_in)

  pub closing_count : {w : ℕ} → n ≤ i → i ≤ n → w ≡ word_at s (5 + wide * i) → w ≡ edges_in s i
  unfolding edges_in
  closing_count h k q =
      let z : i ≡ count_in s = omega (arith, f.count) in
      q ∙ ap (λ (x : ℕ). word_at s (5 + x * i)) ew ∙ rw (z, f.edition, le-ltb (count_in s) (count_in s) (omega arith), edges_in)
