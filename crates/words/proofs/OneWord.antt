-- One word: four bytes in a row, read where they stand, and the number that it is the word of. Assumes nothing.
use mathlib.Core.Path.{◌≡◌, refl, sym, ap, ◌∙◌}
use mathlib.Core.List.{List, [], ◌∷◌}
use Prim.Native.Nat.{ℕ, zero, suc, ◌+◌, ◌*◌, ◌/◌, ◌%◌, ◌^◌, ◌≤◌, ◌<◌}
use native.Mathlib.Numerals.{add-one, add-two, add-three}
use native.Mathlib.Omega.{arith}
use mathlib.Core.Bool.{Bool, true, false}
use lib.Dec.{ltb}
use lib.IntN.{ℤ, pos, negsuc}
use lib.Signed.{mag}
use Rattle.std.specs.Int.{to_le_bytes}
use lib.ListN.{length, get_or}
use mir.Syntax.{w8, w32, w64}
use mir.Val.{Fits, SFits, to_z, of_z}
use mir.Facts.{to_z-of_z}
use Rattle.runs.specs.Runs.{spread, over, Runs, Room, agree}
use Rattle.runs.proofs.Agreed.{agree_same}
use Rattle.words.specs.Words.{word_of, number_of, four_bytes, word_from, words_in, word_at}

-- ---- four bytes

pub room_word : {at : ℕ} (w : ℕ) → Room four_bytes at (w ∷ []) → at + 4 < 2 ^ 64
unfolding spread four_bytes
room_word w h = h.fits

pub word_room : {at : ℕ} (w : ℕ) → at + 4 < 2 ^ 64 → Room four_bytes at (w ∷ [])
unfolding spread four_bytes
word_room w h = record { fits = h }

-- taken one by one, into whatever state
pub word_run : {S : Type 0} {f : S → ℕ → ℕ → S} {s₀ s₁ s₂ s₃ s₄ : S} {at : ℕ} (w : ℕ)
    → s₁ ≡ f s₀ at (w % 256) → s₂ ≡ f s₁ (at + 1) (w / 256 % 256) → s₃ ≡ f s₂ (at + 2) (w / 65536 % 256) → s₄ ≡ f s₃ (at + 3) (w / 16777216 % 256)
    → Runs f four_bytes s₀ at (w ∷ []) s₄ (at + 4)
unfolding spread over four_bytes
word_run {at = at} w p q r s = record { out = cc (add-one at, add-two at, add-three at); pos = refl }

-- and where bs are the word's bytes, one by one from them
pub bytes_run : {S : Type 0} {f : S → ℕ → ℕ → S} {s₀ s₁ s₂ s₃ s₄ : S} {at : ℕ} {bs : List ℕ} (w : ℕ) → bs ≡ to_le_bytes w32 w
    → s₁ ≡ f s₀ at (get_or bs 0 0) → s₂ ≡ f s₁ (at + 1) (get_or bs 1 0) → s₃ ≡ f s₂ (at + 2) (get_or bs 2 0) → s₄ ≡ f s₃ (at + 3) (get_or bs 3 0)
    → Runs f four_bytes s₀ at (w ∷ []) s₄ (at + 4)
bytes_run w e p q r s = word_run w (rw e at p) (rw e at q) (rw e at r) (rw e at s)

-- four bytes that make up a word are its bytes
pub word_bytes : (a b c d w : ℕ) → a < 256 → b < 256 → c < 256 → d < 256 → a + 256 * b + 65536 * c + 16777216 * d ≡ w
    → (a ≡ w % 256) × (b ≡ w / 256 % 256) × (c ≡ w / 65536 % 256) × (d ≡ w / 16777216 % 256)
word_bytes a b c d w ha hb hc hd e = (omega arith, omega arith, omega arith, omega arith)

-- and where they stand at once in a store that has agreed so far, it agrees to the word
module _ (s : List ℕ) {ok at w : ℕ} (e : ok ≡ at) (l : at + 4 ≤ length s) (small : (i : ℕ) → Fits w8 (get_or s i 0))
    (h : word_from s at ≡ w) where
  pub word_same : Runs (agree s) four_bytes ok at (w ∷ []) (at + 4) (at + 4)
  unfolding word_from
  word_same =
      let p = word_bytes _ _ _ _ w (small at).fits (small (at + 1)).fits (small (at + 2)).fits (small (at + 3)).fits h in
      word_run w
      (ap (λ k. k + 1) (sym e) ∙ agree_same s ok at _ e (omega arith) p.0)
      (omega arith ∙ agree_same s (at + 1) (at + 1) _ refl (omega arith) p.1)
      (omega arith ∙ agree_same s (at + 2) (at + 2) _ refl (omega arith) p.2)
      (omega arith ∙ agree_same s (at + 3) (at + 3) _ refl (omega arith) p.3)

-- read where they stand
pub word_here : (s : List ℕ) (i : ℕ) → 4 * i + 4 ≤ length s
    → word_from s (4 * i) ≡ word_at s i
unfolding word_from word_at words_in
word_here [] i h = absurd (omega arith)
word_here (a ∷ []) i h = absurd (omega arith)
word_here (a ∷ b ∷ []) i h = absurd (omega arith)
word_here (a ∷ b ∷ c ∷ []) i h = absurd (omega arith)
word_here (a ∷ b ∷ c ∷ d ∷ s) zero h = refl
word_here (a ∷ b ∷ c ∷ d ∷ s) (suc i) h =
    let e₀ : 4 * suc i ≡ suc (suc (suc (suc (4 * i)))) = omega arith in
    let e₁ : 4 * suc i + 1 ≡ suc (suc (suc (suc (4 * i + 1)))) = omega arith in
    let e₂ : 4 * suc i + 2 ≡ suc (suc (suc (suc (4 * i + 2)))) = omega arith in
    let e₃ : 4 * suc i + 3 ≡ suc (suc (suc (suc (4 * i + 3)))) = omega arith in
    rw (e₁, e₂, e₃, e₀) (word_here s i (omega arith))

-- ---- the word of a number is its bits, and the number of a word is what they say

narrow_bits : (z : ℤ) → mag z < 2 ^ 31 → of_z w32 z ≡ word_of z
unfolding word_of
narrow_bits (pos n) h = omega arith
narrow_bits (negsuc n) h = omega arith

pub word_bits : {z : ℤ} → SFits w32 z → of_z w32 (to_z w32 (of_z w32 z)) ≡ word_of z
word_bits {z} h = ap (of_z w32) (to_z-of_z h) ∙ narrow_bits z h.sfits

lowest_bits : (z : ℤ) → mag z < 2 ^ 63 → of_z w64 z % 2 ^ 32 ≡ word_of z
unfolding word_of
lowest_bits (pos n) h = refl
lowest_bits (negsuc n) h = omega arith

pub wide_word_bits : {z : ℤ} → SFits w64 z → of_z w64 (to_z w64 (of_z w64 z)) % 2 ^ 32 ≡ word_of z
wide_word_bits {z} h = ap (λ q. of_z w64 q % 2 ^ 32) (to_z-of_z h) ∙ lowest_bits z h.sfits

pub number_is : (w : ℕ) → to_z w32 w ≡ number_of w
unfolding number_of
number_is w = pick (ltb w (2 ^ 31)) refl
  where
    pick : (b : Bool) → ltb w (2 ^ 31) ≡ b → to_z w32 w ≡ number_of w
    pick true e = rw (e, number_of) refl
    pick false e = rw (e, number_of) (ap negsuc (omega arith))
