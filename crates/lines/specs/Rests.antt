-- What reading leaves of a line.
use Rattle.std.specs.Prelude.{ℕ, ◌≡◌, ◌≤◌, List, length, drop}

-- the line from some place on, which lies in the line
pub record LeftOf (line rest : List ℕ) : Type 0 where
  pub at : ℕ
  pub within : at ≤ length line
  pub left : rest ≡ drop at line
