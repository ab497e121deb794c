-- `leaps::leaps::leap_on` meets its contract: what is clear within the reach of a leap leads on by it. Assumes nothing.
use native.Mathlib.Omega.{arith}
use Rattle.leaps.proofs.Leaping.{leads_same, leads_on, leaps_one}
use Rattle.leaps.proofs.leaps.leap_on.Goals as goal

pub returns-then-clear : goal.returns-then-clear
returns-then-clear c =
    let same = leads_same c.requires.unit_long.0 (omega (arith, c.requires.unit_long.1)) c.requires.unit_long.2 in (
      leads_on 8 63 _ _ _ _ same c.requires.turns.1 c.requires.turns.0.step c.clear.ensures c.if-clear.true (omega (arith, c.requires.turns.2)) c.rotated.ensures (omega (arith, c.requires.unit_long.1)) (omega arith),
      omega arith,
    )

pub returns-then-clear-2 : goal.returns-then-clear-2
returns-then-clear-2 c =
    let same = leads_same c.requires.unit_long.0 (omega (arith, c.requires.unit_long.1)) c.requires.unit_long.2 in (
      leads_on 1 0 _ _ _ _ same (leaps_one _ c.requires.turns.0.step) c.requires.turns.0.step c.clear-else-clear.ensures c.if-clear-2.true (omega (arith, c.requires.turns.2)) c.rotated-then-clear-2.ensures (omega (arith, c.requires.unit_long.1)) (omega arith),
      omega arith,
    )
