-- `variable_stroke::Chain::meet` meets its contract: a join to the last section, or the start cap. Assumes nothing.
use Rattle.runs.proofs.Laws.{room_as}
use Rattle.folds.proofs.Laid.{lays_as}
use Rattle.variable_stroke.proofs.ChainSteps.{meet_held, meet_none, held_around}
use Rattle.variable_stroke.proofs.Chain.meet.Goals as goal

pub join-requires : goal.join-requires
join-requires c = record { unit_long = (c.requires.unit_long.0, held_around _ c.in-Some.is c.requires.unit_long.1.last, c.requires.unit_long.2); room = room_as (meet_held _ _ _ _ c.in-Some.is) c.requires.room }

pub start_cap-requires : goal.start_cap-requires
start_cap-requires c = record { unit_long = (c.requires.unit_long.0, c.requires.unit_long.2); room = room_as (meet_none _ _ _ _ c.in-None.is) c.requires.room }

pub returns-in-Some : goal.returns-in-Some
returns-in-Some c = lays_as (meet_held _ _ _ _ c.in-Some.is) c.join.ensures

pub returns-in-None : goal.returns-in-None
returns-in-None c = lays_as (meet_none _ _ _ _ c.in-None.is) c.start_cap.ensures
