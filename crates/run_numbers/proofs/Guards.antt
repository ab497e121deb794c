-- What tests of sizes tell of the vectors that are made of them.
use Rattle.std.proofs.Common.{◌≡◌, ℕ, zero, suc, ◌+◌, ◌*◌, ◌^◌, ◌≤◌, ◌<◌, nat_abs, arith}
use Rattle.std.proofs.lemmas.Nat.{mul-le}
use Rattle.plane.specs.Vectors.{Short, square_of}
use Rattle.plane.specs.Directions.{UnitLong}
use Rattle.plane.specs.declared.Vector.{Vector}

-- a square is no smaller than its root
square_least : (n : ℕ) → n ≤ n * n
square_least zero = omega arith
square_least (suc n) = omega (arith, mul-le 1 (suc n) (suc n) (suc n) (omega arith) (omega arith))

-- a vector whose coordinates have the sizes m and n
module _ (v : Vector) {m n : ℕ} (x : nat_abs v.x ≡ m) (y : nat_abs v.y ≡ n) where
  pub sizes_short : m ≤ 2 ^ 30 → n ≤ 2 ^ 30 → Short v
  sizes_short h k = record { x = record { size = omega arith }; y = record { size = omega arith } }

  pub sizes_above : (m + n ≡ 0 → ⊥) → 0 < square_of v
  unfolding square_of
  sizes_above h = rw (x, y) (omega (arith, square_least m, square_least n))

  pub sizes_unit : m * m + n * n ≤ 2 ^ 60 → UnitLong v
  unfolding square_of
  sizes_unit h = record { length = rw (x, y) h }
