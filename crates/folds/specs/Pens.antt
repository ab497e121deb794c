-- What a pen leaves: these edges, in order. A pen that folds, which is for speed alone, may leave a whole arc as eleven numbers (Folds.antt); any other
-- leaves each edge as its four.
use Rattle.std.specs.Prelude.{◌≡◌, Bool, false, List, ℕ, ℤ}
use Rattle.runs.specs.Runs.{spread, Runs, put}
use Rattle.plane.specs.declared.Vector.{Vector}
use Rattle.turning.specs.Edges.{edge_numbers}
use Rattle.turning.specs.declared.Edge.{Edge}
use Rattle.folds.specs.declared.Fold.{Fold}
use Rattle.folds.specs.Folds.{SoundFolds, fold_edges, fold_numbers}

-- Edges by steps of t are laid into room, folded or not: from the position a₀ on the room then holds them, and the position is a₁. Where
-- nothing may be folded they stand edge by edge.
pub record Lays (t : Vector) (folds : Bool) (l₀ : List ℤ) (a₀ : ℕ) (es : List Edge) (l₁ : List ℤ) (a₁ : ℕ) : Type 0 where
  pub held : List Fold
  pub sound : SoundFolds held
  pub edges : es ≡ spread (fold_edges t) held
  pub plain : folds ≡ false → spread fold_numbers held ≡ spread edge_numbers es
  pub made : Runs put fold_numbers l₀ a₀ held l₁ a₁
