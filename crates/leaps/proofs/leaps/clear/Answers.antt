-- `leaps::leaps::clear` meets its contract: within reach, no product falls back to 0. Assumes nothing.
use mathlib.Core.Path.{sym, ◌∙◌}
use Rattle.plane.proofs.Directions.{unit_short}
use Rattle.turning.proofs.Limits.{told}
use Rattle.leaps.proofs.LeapTests.{clear_ahead, clear_behind, clear_back}
use Rattle.leaps.proofs.leaps.clear.Goals.{then-ahead, else-ahead}
use Rattle.leaps.proofs.leaps.clear.Goals as goal

pub cross-z-requires : goal.cross-z-requires
cross-z-requires c = (unit_short c.requires.0, unit_short c.requires.1)

pub returns-then-behind : goal.returns-then-behind
returns-then-behind c =
    elim c.if-ahead.branch [
      | then-ahead w ↦ clear_ahead _ _ _ c.requires.1 (told c.cross-z.type_inv c.cross-z.ensures) c.ahead.ensures w.if-ahead.true
      | else-ahead w ↦ clear_behind _ _ _ c.requires.1 (told c.cross-z.type_inv c.cross-z.ensures) w.behind.ensures (sym w.value-is ∙ c.if-behind.true)
    ]

pub dot-requires : goal.dot-requires
dot-requires c = (unit_short c.requires.0, unit_short c.requires.1)

pub returns-else-behind : goal.returns-else-behind
returns-else-behind c = clear_back _ _ _ c.requires.1 (told c.dot.type_inv c.dot.ensures) c.behind-else-behind.ensures
