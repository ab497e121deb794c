-- For speed alone, no rule of document 01: how own numbers hold edges, an edge by its four numbers, or a whole arc of three edges or more by eleven.
use Rattle.std.specs.Prelude.{◌≡◌, false, List, [], ◌∷◌, ◌++◌, ℕ, ◌+◌, ◌*◌, ◌^◌, ◌≤◌, ℤ, pos, neg_ℤ, length, get_or, take, drop}
use Rattle.runs.specs.Runs.{spread, Runs, put}
use Rattle.plane.specs.Vectors.{Near}
use Rattle.plane.specs.Directions.{UnitLong}
use Rattle.plane.specs.declared.Point.{Point}
use Rattle.plane.specs.declared.Vector.{Vector}
use Rattle.turning.specs.Edges.{edge_numbers}
use Rattle.turning.specs.Bounds.{Reach, Centre, Radius}
use Rattle.turning.specs.declared.Edge.{Edge}
use Rattle.folds.specs.declared.Pen.{Pen}
use Rattle.folds.specs.declared.Bow.{Bow}
use Rattle.folds.specs.declared.Fold.{Fold}
use Rattle.folds.specs.declared.Fold.TheVariants.{Straight, Bent}
use Rattle.leaps.specs.Bows.{bow_edges}

-- what stands folded, edge by edge
unfoldable pub fold_edges : Vector → Fold → List Edge
fold_edges t (Straight e) = e ∷ []
fold_edges t (Bent b) = bow_edges b.turns t b.centre b.radius b.to b.direction b.from

-- what an arc starts with: no coordinate of an edge is that number
abbrev pub mark : ℤ
mark = neg_ℤ (pos (2 ^ 31))

unfoldable pub fold_numbers : Fold → List ℤ
fold_numbers (Straight e) = edge_numbers e
fold_numbers (Bent b) =
    mark ∷ pos b.turns ∷ b.direction.x ∷ b.direction.y ∷ b.centre.x ∷ b.centre.y ∷ b.radius ∷ b.from.x ∷ b.from.y ∷ b.to.x ∷ b.to.y ∷ []

-- within the limits: such numbers can be read back
pub record SoundBow (b : Bow) : Type 0 where
  pub least : 2 ≤ b.turns
  pub most : b.turns ≤ 1535
  pub direction : UnitLong b.direction
  pub centre : Centre b.centre
  pub radius : Radius b.radius
  pub from : Near b.from
  pub to : Near b.to

unfoldable pub SoundFold : Fold → Type 0
SoundFold (Straight e) = Reach e
SoundFold (Bent b) = SoundBow b

unfoldable pub SoundFolds : List Fold → Type 0
SoundFolds [] = Unit {0}
SoundFolds (f ∷ fs) = SoundFold f × SoundFolds fs

-- ---- read back

-- the first m numbers of l hold edges
pub record Holds (l : List ℤ) (m : ℕ) : Type 0 where
  pub held : List Fold
  pub sound : SoundFolds held
  pub numbers : take m l ≡ spread fold_numbers held
  pub whole : m ≤ length l

-- a pen that folds nothing has left them edge by edge
pub record Edgewise (pen : Pen) (l : List ℤ) (m : ℕ) : Type 0 where
  pub edgewise : pen.folds ≡ false → (fs : List Fold) → SoundFolds fs → take m l ≡ spread fold_numbers fs → spread fold_numbers fs ≡ spread edge_numbers (spread (fold_edges pen.step) fs)

-- the room is long enough for those edges by steps of t
pub record RoomFor (t : Vector) (l : List ℤ) (m room : ℕ) : Type 0 where
  pub enough : (fs : List Fold) → SoundFolds fs → take m l ≡ spread fold_numbers fs → length (spread edge_numbers (spread (fold_edges t) fs)) ≤ room

-- from the position j on l holds a fold first
pub record Stands (l : List ℤ) (j : ℕ) : Type 0 where
  pub fold : Fold
  pub sound : SoundFold fold
  pub rest : List ℤ
  pub numbers : drop j l ≡ fold_numbers fold ++ rest

-- f is what stands there
pub record Finds (l : List ℤ) (j : ℕ) (f : Fold) : Type 0 where
  pub reads : (g : Fold) → SoundFold g → (rest : List ℤ) → drop j l ≡ fold_numbers g ++ rest → f ≡ g

-- an arc stands there, and b is the one
pub record StandsBent (l : List ℤ) (j : ℕ) : Type 0 where
  pub bow : Bow
  pub sound : SoundBow bow
  pub rest : List ℤ
  pub numbers : drop j l ≡ fold_numbers (Bent bow) ++ rest

pub record FindsBent (l : List ℤ) (j : ℕ) (b : Bow) : Type 0 where
  pub reads : (g : Bow) → SoundBow g → (rest : List ℤ) → drop j l ≡ fold_numbers (Bent g) ++ rest → b ≡ g

-- the two numbers at j as a point, as a direction
unfoldable pub point_in : List ℤ → ℕ → Point
point_in l j = record { x = get_or l j (pos 0); y = get_or l (j + 1) (pos 0) }

unfoldable pub direction_in : List ℤ → ℕ → Vector
direction_in l j = record { x = get_or l j (pos 0); y = get_or l (j + 1) (pos 0) }

-- how many numbers a fold's edges come to
unfoldable pub size_of : Fold → ℕ
size_of (Straight e) = 4
size_of (Bent b) = 4 * b.turns + 4

-- how many numbers the edges come to that the first m numbers of l hold, whatever the step
pub record Sizes (l : List ℤ) (m n : ℕ) : Type 0 where
  pub size : (t : Vector) (fs : List Fold) → SoundFolds fs → take m l ≡ spread fold_numbers fs → n ≡ length (spread edge_numbers (spread (fold_edges t) fs))

-- those edges by steps of t, written into the room l₀ from its start on
pub record Unfolds (t : Vector) (l : List ℤ) (m : ℕ) (l₀ l₁ : List ℤ) (n : ℕ) : Type 0 where
  pub unfolds : (fs : List Fold) → SoundFolds fs → take m l ≡ spread fold_numbers fs → Runs put edge_numbers l₀ 0 (spread (fold_edges t) fs) l₁ n
