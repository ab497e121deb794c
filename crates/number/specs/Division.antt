-- How a divisor is cut for one machine division.
use Rattle.std.specs.Prelude.{◌≡◌, ℕ, ◌*◌, ◌^◌, ◌<◌, ◌≤◌, ◌⊎◌}

-- t bits of d may be spared: at most 34 bits are left, and 34 where any is spared
pub record Spared (d t : ℕ) : Type 0 where
  pub few : d < 2 ^ 34 * 2 ^ t
  pub many : (t ≡ 0) ⊎ (2 ^ 33 * 2 ^ t ≤ d)
  pub short : t ≤ 30
