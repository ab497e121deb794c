-- What comparing numbers with the words of a store promises.
use Rattle.std.specs.Prelude.{List, ℕ, ◌+◌, ◌*◌, ◌≤◌, ℤ, length, drop}
use Rattle.runs.specs.Runs.{Runs, agree}
use Rattle.words.specs.Words.{words_of, four_bytes}

-- the first j numbers stand as words from a byte on: whoever compares the rest from there on has compared them all
pub record Alike (s : List ℕ) (l : List ℤ) (at j : ℕ) : Type 0 where
  pub most : j ≤ length l
  pub rest : (ok end : ℕ) → Runs (agree s) four_bytes (at + 4 * j) (at + 4 * j) (words_of (drop j l)) ok end → Runs (agree s) four_bytes at at (words_of l) ok end
