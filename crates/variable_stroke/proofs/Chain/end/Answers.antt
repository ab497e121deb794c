-- `variable_stroke::Chain::end` meets its contract: the end cap of the last section, or the circle of a lone vertex. Assumes nothing.
use Rattle.runs.proofs.Laws.{room_as}
use Rattle.folds.proofs.Laid.{lays_as}
use Rattle.variable_stroke.proofs.ChainSteps.{finish_held, finish_none, held_around}
use Rattle.variable_stroke.proofs.Chain.end.Goals as goal

pub end_cap-requires : goal.end_cap-requires
end_cap-requires c = record { unit_long = (c.requires.unit_long.0, held_around _ c.in-Some.is c.requires.unit_long.1.last); room = room_as (finish_held _ _ _ c.in-Some.is) c.requires.room }

pub lone-requires : goal.lone-requires
lone-requires c = record { unit_long = c.requires.unit_long; room = room_as (finish_none _ _ _ c.in-None.is) c.requires.room }

pub returns-in-Some : goal.returns-in-Some
returns-in-Some c = lays_as (finish_held _ _ _ c.in-Some.is) c.end_cap.ensures

pub returns-in-None : goal.returns-in-None
returns-in-None c = lays_as (finish_none _ _ _ c.in-None.is) c.lone.ensures
