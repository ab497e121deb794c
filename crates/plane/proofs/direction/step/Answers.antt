-- `plane::direction::step` meets its contract: each of the eight pairs is computed. Assumes nothing.
use mathlib.Core.Path.{◌≡◌, refl}
use Prim.Native.Nat.{ℕ, zero, suc, ◌-◌, ◌≤◌}
use native.Mathlib.Omega.{arith}
use lib.IntN.{pos}
use lib.ListN.{get_or}
use Rattle.number.specs.Root.{corrected_of, root_in, root_of}
use Rattle.plane.specs.Vectors.{square_of}
use Rattle.plane.specs.Directions.{part_of, component_of, direction_of, step_of}
use Rattle.plane.specs.declared.direction.TheConstants.{STEPS}
use Rattle.plane.proofs.direction.step.Goals as goal

each : (g : ℕ) → 1 ≤ g → g ≤ 8 → get_or STEPS (g - 1) (record { x = pos 0; y = pos 0 }) ≡ step_of g
unfolding corrected_of root_in root_of square_of part_of component_of direction_of step_of
each zero h k = absurd (omega arith)
each (suc zero) h k = refl
each (suc (suc zero)) h k = refl
each (suc (suc (suc zero))) h k = refl
each (suc (suc (suc (suc zero)))) h k = refl
each (suc (suc (suc (suc (suc zero))))) h k = refl
each (suc (suc (suc (suc (suc (suc zero)))))) h k = refl
each (suc (suc (suc (suc (suc (suc (suc zero))))))) h k = refl
each (suc (suc (suc (suc (suc (suc (suc (suc zero)))))))) h k = refl
each (suc (suc (suc (suc (suc (suc (suc (suc (suc g))))))))) h k = absurd (omega arith)

pub returns : goal.returns
returns c = each c.args.grade c.requires.0 c.requires.1
