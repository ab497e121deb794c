-- `plane::direction::settled` meets its contract: the test of the upper limbs tells of the whole. Assumes nothing.
use mathlib.Core.Path.{◌≡◌}
use mathlib.Core.Bool.{true}
use Prim.Native.Nat.{ℕ, ◌≤◌}
use borrow.Author.Tests.{ltb-true}
use lib.Dec.{ltb}
use native.Mathlib.Omega.{arith}
use Rattle.plane.proofs.Settle.{limbs_low, limbs_high}
use Rattle.plane.proofs.direction.settled.Goals as goal

pub returns-then-p-e : goal.returns-then-p-e
returns-then-p-e c = record { low = λ x. limbs_low _ _ _ _ c.high-p.ensures.1 c.if-p-e.true; high = λ x. limbs_high _ _ _ _ c.high-p.ensures.0 (ltb-true _ _ x) }

never : (p e : ℕ) {A : Type 0} → e ≤ p → ltb p e ≡ true → A
never p e h x = absurd (omega (arith, ltb-true p e x))
