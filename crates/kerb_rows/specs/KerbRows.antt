-- Document 02, request 3: the rows of a kerb, and what a check of them says.
use Rattle.std.specs.Prelude.{◌≡◌, not, List, [], ◌∷◌, ℕ, ◌%◌, ◌≤◌, eqb, ℤ, pos, length, Result, Ok, Err}
use Rattle.turning.specs.declared.Edge.{Edge}
use Rattle.kerb.specs.Kerbs.{kerb_edges}
use Rattle.kerb.specs.Styles.{style_of}
use Rattle.kerb_paths.specs.Points.{kerb_path}
use Rattle.paths.specs.Paths.{Within}
use Rattle.replies.specs.Replies.{Reply, Row, first_row, draw_grade_row, count_row, outside_row}
use Rattle.replies.specs.StyleRows.{style_row}
use Rattle.replies.specs.Refusals.{refusal_of}
use Rattle.replies.specs.declared.Refusal.{Refusal}

-- 1, an odd count: how many numbers.
unfoldable pub pairs_row : List ℤ → Row
pairs_row l = (not (eqb (length l % 2) 0), (1, length l))

-- l is the points lent, g the grade; r, j and c are the radius, join and closed beside them
unfoldable pub kerb_rows : List ℤ → ℕ → ℕ → ℕ → ℕ → List Row
kerb_rows l g r j c = pairs_row l ∷ draw_grade_row g ∷ style_row r j c ∷ count_row (length (kerb_path (pos r) l)) ∷ outside_row (kerb_path (pos r) l) ∷ []

-- the edges that are due
unfoldable pub kerb_due : List ℤ → ℕ → ℕ → ℕ → ℕ → List Edge
kerb_due l g r j c = kerb_edges g (style_of r j c) (kerb_path (pos r) l)

-- a kerb whose rows are passed: n points
pub record KerbFits (l : List ℤ) (g r j c n : ℕ) : Type 0 where
  pub count : n ≡ length (kerb_path (pos r) l)
  pub within : Within g (kerb_path (pos r) l)
  pub radius : r ≤ 268435456
  pub join : j ≤ 1
  pub closed : c ≤ 1
  pub passed : (more : Reply) → first_row (kerb_rows l g r j c) more ≡ more

-- a refusal's reply, or what further rows say
unfoldable pub or_kerb : Result ℕ Refusal → Reply → Reply
or_kerb (Err r) more = refusal_of r
or_kerb (Ok n) more = more

pub record KerbSays (l : List ℤ) (g r j c : ℕ) (answer : Result ℕ Refusal) : Type 0 where
  pub says : (more : Reply) → first_row (kerb_rows l g r j c) more ≡ or_kerb answer more
  pub fits : (n : ℕ) → answer ≡ Ok n → KerbFits l g r j c n
