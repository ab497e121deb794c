-- What a check of shared rows says: a refusal is the first row that held; where none did, what the rows ask holds.
use Rattle.std.specs.Prelude.{◌≡◌, List, ℕ, ℤ, length, Result, Ok, Err}
use Rattle.paths.specs.Paths.{path_of, Within}
use Rattle.replies.specs.Replies.{Reply, first_row, path_rows}
use Rattle.replies.specs.Refusals.{refusal_of}
use Rattle.replies.specs.declared.Refusal.{Refusal}

-- a path whose rows are passed: n triples, and grade and vertices within the limits
pub record Fits (path : List ℤ) (grade n : ℕ) : Type 0 where
  pub count : n ≡ length (path_of path)
  pub within : Within grade (path_of path)
  pub passed : (more : Reply) → first_row (path_rows path grade) more ≡ more

-- a refusal's reply, or what further rows say
unfoldable pub or_path : Result ℕ Refusal → Reply → Reply
or_path (Err r) more = refusal_of r
or_path (Ok n) more = more

pub record PathSays (path : List ℤ) (grade : ℕ) (r : Result ℕ Refusal) : Type 0 where
  pub says : (more : Reply) → first_row (path_rows path grade) more ≡ or_path r more
  pub fits : (n : ℕ) → r ≡ Ok n → Fits path grade n
