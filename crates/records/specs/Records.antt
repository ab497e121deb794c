-- Document 02, requests 4 and 11: what draw and keep take of a host's vertex records.
use Rattle.std.specs.Prelude.{◌≡◌, List, [], ◌∷◌, ℕ, ◌+◌, ◌*◌, ℤ}
use Rattle.runs.specs.Runs.{spread, over, put}
use Rattle.words.specs.Words.{number_of, words_of}
use Rattle.records.specs.declared.Record.{Record}

-- The numbers of a record, as a path in lent numbers has them.
unfoldable pub record_numbers : Record → List ℤ
record_numbers v = v.x ∷ v.y ∷ v.radius ∷ []

-- Its point number, as a path's posts have it.
unfoldable pub record_posts : Record → List ℕ
record_posts v = v.number ∷ []

-- ---- records in lent numbers: those of m vertices, three each, and then their posts, each as the number that has its word

unfoldable pub post_numbers : Record → List ℤ
post_numbers v = number_of v.number ∷ []

-- the k-th record put among them
pub record PutsRecord (l₀ : List ℤ) (m k : ℕ) (v : Record) (l₁ : List ℤ) : Type 0 where
  pub out : l₁ ≡ over put (over put l₀ (3 * k) (record_numbers v)) (3 * m + k) (post_numbers v)
  pub words : words_of (post_numbers v) ≡ record_posts v

-- records put among them from the first on
pub record Gathers (l₀ : List ℤ) (m : ℕ) (vs : List Record) (l₁ : List ℤ) : Type 0 where
  pub out : l₁ ≡ over put (over put l₀ 0 (spread record_numbers vs)) (3 * m) (spread post_numbers vs)
  pub words : words_of (spread post_numbers vs) ≡ spread record_posts vs
