-- For speed alone, no rule of document 01: document 02, request 2, the half turn of directions at grade 8 as a table of pairs.
use Rattle.std.specs.Prelude.{◌≡◌, Bool, true, false, ◌&&◌, List, [], ◌∷◌, ℕ, ◌+◌, ◌^◌, ◌<◌, ℤ, pos, neg_ℤ, length, get_or}
use Rattle.std.specs.Int.Signed.{lt_z}
use Rattle.plane.specs.Vectors.{same_number}
use Rattle.plane.specs.Directions.{rotated_of, step_of}
use Rattle.plane.specs.declared.Vector.{Vector}
use Rattle.leaps.specs.Leaps.{turned_of}

-- due east, where a circle's first half starts; due west, where its second does
unfoldable pub axis_of : Bool → Vector
axis_of false = record { x = pos (2 ^ 30); y = pos 0 }
axis_of true = record { x = neg_ℤ (pos (2 ^ 30)); y = pos 0 }

-- a pair as a direction
abbrev pub vector_of : ℤ × ℤ → Vector
vector_of p = record { x = p.0; y = p.1 }

-- whether the first pair is d rotated by the step t, and each next the pair before it rotated
unfoldable pub follows_of : Vector → Vector → List (ℤ × ℤ) → Bool
follows_of t d [] = true
follows_of t d (p ∷ ps) = same_number p.0 (rotated_of t d).x && (same_number p.1 (rotated_of t d).y && follows_of t (vector_of p) ps)

-- the pair at i
abbrev pub pair_of : List (ℤ × ℤ) → ℕ → Vector
pair_of ps i = vector_of (get_or ps i (pos 0, pos 0))

-- 402 pairs, each the direction after so many rotations from due east: the next would be past due west
pub record Tabled (ps : List (ℤ × ℤ)) : Type 0 where
  pub long : length ps ≡ 402
  pub rule : (i : ℕ) → i < 402 → pair_of ps i ≡ turned_of (i + 1) (step_of 8) (axis_of false)

-- ---- tests, which tell something where they pass

pub record Finest (t : Vector) (x : Bool) : Type 0 where
  pub finest : x ≡ true → t ≡ step_of 8

pub record Axial (d : Vector) (x : Bool) : Type 0 where
  pub axial : x ≡ true → d ≡ axis_of (lt_z d.x (pos 0))
