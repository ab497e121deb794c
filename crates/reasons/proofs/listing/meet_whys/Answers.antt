-- `reasons::listing::meet_whys` meets its contract: a join to the last section, or the start cap. Assumes nothing.
use Rattle.runs.proofs.Laws.{runs_as, room_as}
use Rattle.variable_stroke.proofs.ChainSteps.{held_around}
use Rattle.reasons.proofs.Listed.{places_room}
use Rattle.reasons.proofs.Whys.{meet_whys_held, meet_whys_none}
use Rattle.reasons.proofs.listing.meet_whys.Goals as goal

pub join_whys-requires : goal.join_whys-requires
join_whys-requires c = record { unit_long = (c.requires.unit_long.0, held_around _ c.in-Some.is c.requires.unit_long.1.last, c.requires.unit_long.2); room = room_as (meet_whys_held c.args.v c.args.t c.args.chain.last c.args.chain.cap c.args.s c.in-Some.is) c.requires.room }

pub label-requires : goal.label-requires
label-requires c = places_room _ _ _ (room_as (meet_whys_none c.args.v c.args.t c.args.chain.last c.args.chain.cap c.args.s c.in-None.is c.start-n.ensures) c.requires.room)

pub returns-in-Some : goal.returns-in-Some
returns-in-Some c = runs_as (meet_whys_held c.args.v c.args.t c.args.chain.last c.args.chain.cap c.args.s c.in-Some.is) c.join_whys.ensures

pub returns-in-None : goal.returns-in-None
returns-in-None c = runs_as (meet_whys_none c.args.v c.args.t c.args.chain.last c.args.chain.cap c.args.s c.in-None.is c.start-n.ensures) c.label.ensures
