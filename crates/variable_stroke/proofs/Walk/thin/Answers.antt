-- `variable_stroke::Walk::thin` meets its contract: leaving, and a thin step of the chain. Assumes nothing.
use Rattle.runs.proofs.Laws.{room_as}
use Rattle.variable_stroke.proofs.ChainSteps.{emitted_thin, walk_thin}
use Rattle.variable_stroke.proofs.Walk.thin.Goals as goal

pub leave-left-requires : goal.leave-left-requires
leave-left-requires c = record { unit_long = (c.requires.unit_long.0, c.requires.unit_long.1, c.requires.unit_long.2); room = room_as (emitted_thin _ _ _ c.requires.unit_long.3) c.requires.room }

pub returns : goal.returns
returns c = walk_thin _ _ _ c.requires.unit_long.3 c.leave-left.ensures c.thin-stepped.ensures
