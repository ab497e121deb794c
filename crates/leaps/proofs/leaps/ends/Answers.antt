-- `leaps::leaps::ends` meets its contract: whatever is that near has products of the same signs. Assumes nothing.
use mathlib.Core.Path.{sym, ◌∙◌}
use mathlib.Core.Bool.{true≢false}
use Rattle.plane.proofs.Directions.{unit_short}
use Rattle.turning.proofs.Limits.{told, next_unit}
use Rattle.leaps.proofs.LeapTests.{ends_told}
use Rattle.leaps.proofs.leaps.ends.Goals.{then-behind, else-behind}
use Rattle.leaps.proofs.leaps.ends.Goals as goal

pub cross-requires : goal.cross-requires
cross-requires c = (unit_short (next_unit c.requires.0 c.requires.2 c.rotated-next.ensures), unit_short c.requires.1)

pub cross-requires-then-behind : goal.cross-requires-then-behind
cross-requires-then-behind c = (unit_short c.requires.2, unit_short c.requires.1)

pub dot-requires : goal.dot-requires
dot-requires c = (unit_short c.requires.2, unit_short c.requires.1)

pub returns-then-ahead : goal.returns-then-ahead
returns-then-ahead c =
    elim c.if-behind.branch [
      | then-behind w ↦ ends_told _ _ _ _ c.requires.0 c.requires.1 c.rotated-next.ensures
          (told c.cross.type_inv c.cross.ensures) c.behind.ensures w.if-behind.true
          (told w.cross-then-behind.type_inv w.cross-then-behind.ensures) w.ahead.ensures (sym w.value-is ∙ c.if-ahead.true)
          (told c.dot.type_inv c.dot.ensures) c.ahead-then-ahead.ensures
      | else-behind w ↦ absurd (true≢false (sym c.if-ahead.true ∙ w.value-is ∙ w.if-behind.false))
    ]
