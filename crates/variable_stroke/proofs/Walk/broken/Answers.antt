-- `variable_stroke::Walk::broken` meets its contract: one chain ended, one started. Assumes nothing.
use Rattle.runs.proofs.Laws.{room_as}
use Rattle.variable_stroke.proofs.ChainSteps.{emitted_broken, walk_broken}
use Rattle.variable_stroke.proofs.Walk.broken.Goals as goal

pub finish-ended-requires : goal.finish-ended-requires
finish-ended-requires c = record { unit_long = (c.requires.unit_long.0, c.requires.unit_long.1.chain); room = room_as (emitted_broken _ _ _ c.requires.unit_long.3 c.break_end.ensures) c.requires.room }

pub returns : goal.returns
returns c = walk_broken _ _ _ c.requires.unit_long.3 c.break_end.ensures c.break_start.ensures c.finish-ended.ensures c.start-begun.ensures
