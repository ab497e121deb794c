-- The lengths of a form, by its case. Assumes nothing.
use mathlib.Core.Path.{◌≡◌, refl, sym, ap, ◌∙◌}
use mathlib.Core.List.{List}
use Prim.Native.Nat.{ℕ, ◌+◌, ◌*◌, ◌^◌, ◌≤◌, ◌<◌}
use Rattle.outline.specs.declared.Edition.{Edition}
use Rattle.outline.specs.declared.Edition.TheVariants.{First, Second}
use native.Mathlib.Omega.{arith}
use lib.ListN.{get_or}
use lib.Seq.{get_or-drop}
use Rattle.words.specs.Words.{words_in, word_at}
use Rattle.outline.specs.Stores.{post_in, post_at}
use Rattle.outline.specs.Layout.{count_place, stroke_words, stroke_bytes, front_bytes, length_of}
use Rattle.outline.specs.declared.Form.{Form}
use Rattle.outline.specs.declared.Form.TheVariants.{Stroke, Kerb}

-- an entry's bytes are four a word, and n entries' too
pub entry_four : (e : Edition) → stroke_bytes e ≡ 4 * stroke_words e
unfolding stroke_bytes
entry_four e = refl

pub entries_four : (e : Edition) (n : ℕ) → stroke_bytes e * n ≡ 4 * (stroke_words e * n)
unfolding stroke_bytes stroke_words count_place
entries_four First n = omega arith
entries_four Second n = omega arith

-- one entry more
pub entry_more : (e : Edition) (n : ℕ) → stroke_words e * (n + 1) ≡ stroke_words e * n + stroke_words e
unfolding stroke_words count_place
entry_more First n = omega arith
entry_more Second n = omega arith

-- an entry has at most 20 bytes, and at least 16
pub entry_most : (e : Edition) → (16 ≤ stroke_bytes e) × (stroke_bytes e ≤ 20)
unfolding stroke_bytes stroke_words count_place
entry_most First = (omega arith, omega arith)
entry_most Second = (omega arith, omega arith)

pub entries_most : (e : Edition) (n : ℕ) → stroke_bytes e * n ≤ 20 * n
unfolding stroke_bytes stroke_words count_place
entries_most First n = omega arith
entries_most Second n = omega arith

-- the first of them is within all
pub entries_first : (e : Edition) (k n : ℕ) → k < n → stroke_bytes e * k + stroke_bytes e ≤ stroke_bytes e * n
unfolding stroke_bytes stroke_words count_place
entries_first First k n h = omega arith
entries_first Second k n h = omega arith

-- the post of an edition's k-th entry is a word of its own
pub post_none : {e : Edition} (s : List ℕ) (k : ℕ) → e ≡ First → 0 ≡ post_at e s k
unfolding post_at post_in
post_none s k q = rw q refl

pub post_word : {e : Edition} (s : List ℕ) (k : ℕ) {w : ℕ} → e ≡ Second → w ≡ word_at s (8 + 5 * k) → w ≡ post_at e s k
unfolding post_at post_in word_at stroke_words count_place
post_word s k q h = rw q (h ∙ sym (get_or-drop (5 + 5 * k) (words_in s) 3 0 ∙ ap (λ (j : ℕ). get_or (words_in s) j 0) (omega arith)))

pub post_inside : {e : Edition} (k l : ℕ) → e ≡ Second → 20 + (stroke_bytes e * k + stroke_bytes e) ≤ l → 20 + (20 * k + 20) ≤ l
unfolding stroke_bytes stroke_words count_place
post_inside k l q h = rw q at h

-- no length wraps
pub length_small : (f : Form) (n m : ℕ) → n ≤ 4096 → m < 2 ^ 32 → length_of f n m < 2 ^ 64
length_small (Stroke e) n m h k = omega (arith, entries_most e n)
length_small (Kerb y) n m h k = omega arith

pub front_small : (f : Form) (n : ℕ) → n ≤ 4096 → front_bytes f n < 2 ^ 64
front_small (Stroke e) n h = omega (arith, entries_most e n)
front_small (Kerb y) n h = omega arith
