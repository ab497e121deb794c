-- Numbers as words, one after another. Assumes nothing.
use mathlib.Core.Path.{◌≡◌, refl, ap, ◌∙◌}
use mathlib.Core.List.{List, [], ◌∷◌, ◌++◌}
use Prim.Native.Nat.{ℕ, suc, ◌+◌, ◌*◌, ◌^◌, ◌≤◌, ◌<◌}
use native.Mathlib.Omega.{arith}
use native.Mathlib.Numerals.{add-one}
use lib.IntN.{ℤ, pos}
use lib.ListN.{length, get_or, drop, drop_of_length-le}
use lib.Seq.{drop-cons}
use mir.Syntax.{w32}
use mir.Val.{SFits, to_z, of_z}
use mir.Facts.{to_z-of_z}
use Rattle.runs.specs.Runs.{spread, Runs, Room}
use Rattle.runs.proofs.Laws.{runs_none, room_first}
use Rattle.runs.proofs.Onward.{Onward, onward_as, onward_done, onward_room, onward_step}
use Rattle.words.specs.Words.{word_of, words_of, four_bytes, bytes_of}
use Rattle.words.proofs.Bytes.{bytes-length}

-- ---- numbers as words

pub words-append : (xs ys : List ℤ) → words_of (xs ++ ys) ≡ words_of xs ++ words_of ys
unfolding words_of
words-append [] ys = refl
words-append (x ∷ xs) ys = ap (λ r. word_of x ∷ r) (words-append xs ys)

pub words-length : (xs : List ℤ) → length (words_of xs) ≡ length xs
unfolding words_of
words-length [] = refl
words-length (x ∷ xs) = ap suc (words-length xs)

-- one number more, where w is its word; and no more
pub words_step : (l : List ℤ) (j : ℕ) {w : ℕ} → j < length l → w ≡ word_of (get_or l j (pos 0)) → words_of (drop j l) ≡ (w ∷ []) ++ words_of (drop (j + 1) l)
unfolding words_of
words_step l j h e = rw (e, add-one, drop-cons l j (pos 0) h)

pub words_end : (l : List ℤ) (j : ℕ) → length l ≤ j → words_of (drop j l) ≡ []
unfolding words_of
words_end l j h = rw (drop_of_length-le l h)

-- a number more of a run that has come to it, where w is what the code has for its word; and the end
module _ {S : Type 0} {f : S → ℕ → ℕ → S} {s₀ s : S} {a₀ a : ℕ} {all : List ℕ} (l : List ℤ) (j : ℕ) (h : Onward f four_bytes s₀ a₀ all s a (words_of (drop j l))) where
  module _ {w : ℕ} (d : j < length l) (k : SFits w32 (get_or l j (pos 0))) (e : w ≡ word_of (to_z w32 (of_z w32 (get_or l j (pos 0))))) where
    onward_word : Onward f four_bytes s₀ a₀ all s a ((w ∷ []) ++ words_of (drop (j + 1) l))
    onward_word = onward_as (words_step l j d (e ∙ ap word_of (to_z-of_z k))) h

    pub onward_number : {s' : S} {a' : ℕ} → Runs f four_bytes s a (w ∷ []) s' a' → Onward f four_bytes s₀ a₀ all s' a' (words_of (drop (j + 1) l))
    onward_number p = onward_step onward_word p

    pub number_room : Room four_bytes a₀ all → Room four_bytes a (w ∷ [])
    number_room r = room_first _ _ (onward_room onward_word r)

  pub onward_end : length l ≤ j → Runs f four_bytes s₀ a₀ all s a
  onward_end d = onward_done (onward_as (words_end l j d) h) runs_none

-- each word is four bytes
pub four_each : (ws : List ℕ) → length (spread four_bytes ws) ≡ 4 * length ws
unfolding bytes_of
four_each ws = bytes-length ws

-- so many bytes are due for numbers
pub words_room : (l : List ℤ) {at : ℕ} → Room four_bytes at (words_of l) → at + 4 * length l < 2 ^ 64
words_room l r = omega (arith, r.fits, four_each (words_of l), words-length l)
