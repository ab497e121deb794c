-- Document 01, "The kept outline": words and bytes.
use Rattle.std.specs.Prelude.{true, false, List, [], ◌∷◌, ℕ, ◌+◌, ◌-◌, ◌/◌, ◌%◌, ◌^◌, ◌*◌, ltb, ℤ, pos, negsuc, get_or}
use Rattle.runs.specs.Runs.{spread}

-- 32-bit words: x, y and edge points in two's complement, the rest unsigned.
unfoldable pub word_of : ℤ → ℕ
word_of (pos n) = n % 2 ^ 32
word_of (negsuc n) = 2 ^ 32 - 1 - n % 2 ^ 32

unfoldable pub number_of : ℕ → ℤ
number_of w = elim (ltb w (2 ^ 31)) [ true ↦ pos w | false ↦ negsuc (2 ^ 32 - 1 - w) ]

unfoldable pub words_of : List ℤ → List ℕ
words_of [] = []
words_of (z ∷ zs) = word_of z ∷ words_of zs

-- Little-endian.
unfoldable pub four_bytes : ℕ → List ℕ
four_bytes w = w % 256 ∷ w / 256 % 256 ∷ w / 65536 % 256 ∷ w / 16777216 % 256 ∷ []

unfoldable pub bytes_of : List ℕ → List ℕ
bytes_of ws = spread four_bytes ws

-- the word that begins at a byte of a store
unfoldable pub word_from : List ℕ → ℕ → ℕ
word_from store at = get_or store at 0 + 256 * get_or store (at + 1) 0 + 65536 * get_or store (at + 2) 0 + 16777216 * get_or store (at + 3) 0

-- the words of a store; bytes left over are none
unfoldable pub words_in : List ℕ → List ℕ
words_in [] = []
words_in (a ∷ []) = []
words_in (a ∷ b ∷ []) = []
words_in (a ∷ b ∷ c ∷ []) = []
words_in (a ∷ b ∷ c ∷ d ∷ l) = (a + 256 * b + 65536 * c + 16777216 * d) ∷ words_in l

unfoldable pub word_at : List ℕ → ℕ → ℕ
word_at store i = get_or (words_in store) i 0
