-- `variable_stroke::Walk::leave` meets its contract: the chain ended where b is covered, else as it was. Assumes nothing.
use Rattle.runs.proofs.Laws.{room_as}
use Rattle.variable_stroke.proofs.ChainSteps.{leave_finishes, leave_yes, leave_no}
use Rattle.variable_stroke.proofs.Walk.leave.Goals as goal

pub finish-ended-requires : goal.finish-ended-requires
finish-ended-requires c = record { unit_long = (c.requires.unit_long.0, c.requires.unit_long.1.chain); room = room_as (leave_finishes _ _ _ c.covered.ensures c.if-covered.true) c.requires.room }

pub returns-then-covered : goal.returns-then-covered
returns-then-covered c = leave_yes _ _ _ c.covered.ensures c.if-covered.true c.finish-ended.ensures c.start-begun.ensures

pub returns-else-covered : goal.returns-else-covered
returns-else-covered c = leave_no _ _ _ c.covered.ensures c.if-covered.false
