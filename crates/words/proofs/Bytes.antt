-- Words and their bytes, numbers and their words. Assumes nothing.
use mathlib.Core.Path.{◌≡◌, refl, ap}
use mathlib.Core.Bool.{true, false}
use mathlib.Core.List.{List, [], ◌∷◌, ◌++◌}
use Prim.Native.Nat.{ℕ, ◌+◌, ◌-◌, ◌*◌, ◌/◌, ◌%◌, ◌^◌, ◌≤◌, ◌<◌}
use native.Mathlib.Omega.{arith}
use native.Mathlib.Nat.{div-div-eq-div-mul, div-add-mod'}
use lib.Dec.{ltb}
use lib.IntN.{ℤ, pos, negsuc, nat_abs}
use lib.Signed.{le_z}
use lib.ListN.{length}
use borrow.Author.Tests.{leb-true, le-ltb, lt-ltb}
use Rattle.runs.specs.Runs.{spread}
use Rattle.words.specs.Words.{word_of, number_of, words_of, four_bytes, bytes_of, words_in}

-- ---- words and bytes

abbrev pub Fit : List ℕ → Type 0
Fit [] = Unit {0}
Fit (w ∷ ws) = (w < 2 ^ 32) × Fit ws

pub fit_append : (us ws : List ℕ) → Fit us → Fit ws → Fit (us ++ ws)
fit_append [] ws h k = k
fit_append (u ∷ us) ws h k = (h.0, fit_append us ws h.1 k)

-- each digit to the base 256 with the quotient above it makes the quotient below
digits : (w q₁ q₂ q₃ d₀ d₁ d₂ : ℕ) → q₁ * 256 + d₀ ≡ w → q₂ * 256 + d₁ ≡ q₁ → q₃ * 256 + d₂ ≡ q₂ → q₃ < 256 → d₀ + 256 * d₁ + 65536 * d₂ + 16777216 * (q₃ % 256) ≡ w
digits w q₁ q₂ q₃ d₀ d₁ d₂ e f g h = omega arith

pub four_back : (w : ℕ) → w < 2 ^ 32 → w % 256 + 256 * (w / 256 % 256) + 65536 * (w / 65536 % 256) + 16777216 * (w / 16777216 % 256) ≡ w
four_back w h =
    let f : w / 65536 * 256 + w / 256 % 256 ≡ w / 256 = rw (div-div-eq-div-mul w 256 256) at (div-add-mod' (w / 256) 256) in
    let g : w / 16777216 * 256 + w / 65536 % 256 ≡ w / 65536 = rw (div-div-eq-div-mul w 65536 256) at (div-add-mod' (w / 65536) 256) in
    digits w (w / 256) (w / 65536) (w / 16777216) _ _ _ (div-add-mod' w 256) f g (omega arith)

pub words_back : (ws rest : List ℕ) → Fit ws → words_in (bytes_of ws ++ rest) ≡ ws ++ words_in rest
unfolding words_in bytes_of spread four_bytes
words_back [] rest h = refl
words_back (w ∷ ws) rest h = λ i. four_back w h.0 i ∷ words_back ws rest h.1 i

pub bytes-length : (ws : List ℕ) → length (bytes_of ws) ≡ 4 * length ws
unfolding bytes_of spread four_bytes
bytes-length [] = refl
bytes-length (w ∷ ws) = omega (arith, bytes-length ws)

-- ---- numbers and words

pub word_fits : (z : ℤ) → word_of z < 2 ^ 32
unfolding word_of
word_fits (pos n) = omega arith
word_fits (negsuc n) = omega arith

pub words_fit : (zs : List ℤ) → Fit (words_of zs)
unfolding words_of
words_fit [] = tt
words_fit (z ∷ zs) = (word_fits z, words_fit zs)

pub number_again : (z : ℤ) → nat_abs z ≤ 2 ^ 30 → number_of (word_of z) ≡ z
unfolding number_of word_of
number_again (pos n) l =
    let e : n % 2 ^ 32 ≡ n = omega arith in
    let t : ltb (n % 2 ^ 32) (2 ^ 31) ≡ true = lt-ltb (n % 2 ^ 32) (2 ^ 31) (omega arith) in
    rw (t, number_of) (ap pos e)
number_again (negsuc n) l =
    let e : 2 ^ 32 - 1 - (2 ^ 32 - 1 - n % 2 ^ 32) ≡ n = omega arith in
    let t : ltb (2 ^ 32 - 1 - n % 2 ^ 32) (2 ^ 31) ≡ false = le-ltb (2 ^ 32 - 1 - n % 2 ^ 32) (2 ^ 31) (omega arith) in
    rw (t, number_of) (ap negsuc e)

-- a coordinate within the limits
pub number_back : (z : ℤ) → le_z (negsuc 268435455) z ≡ true → le_z z (pos 268435456) ≡ true → number_of (word_of z) ≡ z
number_back (pos n) h k = number_again (pos n) (omega (arith, leb-true n 268435456 k))
number_back (negsuc n) h k = number_again (negsuc n) (omega (arith, leb-true n 268435455 h))
