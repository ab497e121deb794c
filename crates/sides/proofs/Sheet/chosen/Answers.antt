-- `sides::Sheet::chosen` meets its contract: by the sheet. Assumes nothing.
use mathlib.Core.Path.{sym}
use Rattle.sides.proofs.Answers.{chosen_before, chosen_after}
use Rattle.sides.proofs.Sheet.chosen.Goals as goal

pub returns-in-Before : goal.returns-in-Before
returns-in-Before c = sym (chosen_before _ _ c.in-Before.is)

pub returns-in-After : goal.returns-in-After
returns-in-After c = sym (chosen_after _ _ c.in-After.is)
