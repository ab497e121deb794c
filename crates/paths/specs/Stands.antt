-- Where a walk over a path stands between two steps, and what the steps so far have left in the room.
use Rattle.std.specs.Prelude.{◌≡◌, false, List, ◌++◌, ◌≤◌, ℤ, length, take, drop}
use Rattle.runs.specs.Runs.{spread}
use Rattle.turning.specs.Edges.{edge_numbers}
use Rattle.folds.specs.Folds.{fold_edges, fold_numbers, SoundFolds}
use Rattle.folds.specs.declared.Pen.{Pen}
use Rattle.folds.specs.declared.Fold.{Fold}
use Rattle.variable_stroke.specs.Chains.{start_of}
use Rattle.paths.specs.Paths.{bodies_from, bodies_at, joined}
use Rattle.variable_stroke.specs.Bounds.{AroundWalk}
use Rattle.contacts.specs.declared.Vertex.{Vertex}
use Rattle.paths.specs.declared.paths.Stand.{Stand}

-- the stand at a path's first vertex: no edge so far
unfoldable pub first_stand : Vertex → Stand
first_stand v = record { walk = start_of v; next = 1; at = 0 }

-- A walk begun with a pen over the room l: up to where it stands the room holds the path's edges so far, and the walk still emits the rest.
pub record Begins (pen : Pen) (vs : List Vertex) (l : List ℤ) (s : Stand) : Type 0 where
  pub held : List Fold
  pub sound : SoundFolds held
  pub numbers : take s.at l ≡ spread fold_numbers held
  pub whole : s.at ≤ length l
  pub plain : pen.folds ≡ false → spread fold_numbers held ≡ spread edge_numbers (spread (fold_edges pen.step) held)
  pub edges : joined (bodies_at pen.step vs) ≡ spread (fold_edges pen.step) held ++ joined (bodies_from pen.step s.walk (drop s.next vs))
  pub around : AroundWalk s.walk
  pub next : s.next ≤ length vs
