-- Document 02, request 12: no arc is ever stopped by the 1,536 count. How many rotations it can need is told by the step's own numbers.
use Rattle.std.specs.Prelude.{◌≡◌, List, ℕ, ◌+◌, ◌-◌, ◌*◌, ◌/◌, ◌^◌, ◌≤◌, ℤ, nat_abs}
use Rattle.plane.specs.Vectors.{from_to}
use Rattle.plane.specs.Directions.{direction_of, step_of}
use Rattle.plane.specs.declared.Point.{Point}
use Rattle.plane.specs.declared.Vector.{Vector}
use Rattle.turning.specs.Arcs.{turns_of, swept_of}
use Rattle.turning.specs.declared.Edge.{Edge}

-- By how much the two parts of a step together exceed its length, which is 2^30.
unfoldable pub excess_of : Vector → ℕ
excess_of t = nat_abs t.x + nat_abs t.y - 2 ^ 30

-- While a direction turns within the quarter before another, the dot product of the two less their cross product lies between -2^60 and 2^60. Each rotation
-- adds to it 2^30 times the excess at least, but for one part in 2^15, which rounding may take. So fewer rotations than these stay within a quarter.
unfoldable pub quarter_of : Vector → ℕ
quarter_of t = 2 ^ 61 / (excess_of t * (2 ^ 30 - 2 ^ 15)) + 1

-- An arc goes through four quarters at most: it has fewer rotations than these.
unfoldable pub rotations_of : ℕ → ℕ
rotations_of g = 4 * quarter_of (step_of g)

-- An arc as document 01 has it, but with k in place of the 1,536.
unfoldable pub swept_within : ℕ → Vector → Point → ℤ → Point → Point → List Edge
swept_within k t c r p q = turns_of k (record { step = t; centre = c; radius = r; to = q; toward = direction_of (from_to c q) }) (direction_of (from_to c p)) p

-- The count is never reached: whatever number from `rotations_of` on stands in its place, the larger ones among them, the arc has the same edges.
abbrev pub NoArcCounted : Type 0
NoArcCounted = (g k : ℕ) (c : Point) (r : ℤ) (p q : Point) → 1 ≤ g → g ≤ 8 → rotations_of g ≤ k → swept_within k (step_of g) c r p q ≡ swept_of (step_of g) c r p q
