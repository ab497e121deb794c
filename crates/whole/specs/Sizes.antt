-- How far a whole number lies from 0.
use Rattle.std.specs.Prelude.{ℕ, ◌≤◌, ℤ, nat_abs}

-- a lies at most n from 0
pub record Size (n : ℕ) (a : ℤ) : Type 0 where
  pub size : nat_abs a ≤ n
