-- Document 02, request 3: the row of a kerb's style.
use Rattle.std.specs.Prelude.{◌≡◌, [], ◌∷◌, ℕ, ◌<◌, ltb, Option, MatchOption}
use Rattle.replies.specs.Replies.{Row, first_row}

-- the header place of the first of radius, join and closed that is outside its range, or 0
unfoldable pub style_fault : ℕ → ℕ → ℕ → ℕ
style_fault r j c = first_row ((ltb 268435456 r, 5) ∷ (ltb 1 j, 6) ∷ (ltb 1 c, 7) ∷ []) 0

-- 11, one of them outside its range: the first one's header place.
unfoldable pub style_row : ℕ → ℕ → ℕ → Row
style_row r j c = (ltb 0 (style_fault r j c), (11, style_fault r j c))

-- that place, as the code has it: none for 0
abbrev pub Faults : Option ℕ → ℕ → Type 0
Faults told fault = MatchOption told (fault ≡ 0) (λ place. (0 < place) × (place ≡ fault))
