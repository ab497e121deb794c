-- What own numbers hold of edges that were counted over them.
use Rattle.std.specs.Prelude.{◌≡◌, List, ℕ, ◌≤◌, ℤ, length, take}
use Rattle.runs.specs.Runs.{spread}
use Rattle.turning.specs.Edges.{edge_numbers}
use Rattle.turning.specs.declared.Edge.{Edge}

-- the edges come to m numbers, and stand first in the own numbers if they are as many
pub record Counted (es : List Edge) (own : List ℤ) (m : ℕ) : Type 0 where
  pub size : m ≡ length (spread edge_numbers es)
  pub held : m ≤ length own → take m own ≡ spread edge_numbers es
