-- `reasons::listing::drawn_whys` meets its contract: both sides, then the meeting. Assumes nothing.
use mathlib.Core.Path.{refl}
use Rattle.runs.proofs.Laws.{runs_as, runs_then, room_first, room_then, room_as}
use Rattle.joins.proofs.CapsAndJoins.{left_reach, right_reach}
use Rattle.reasons.proofs.Listed.{places_room}
use Rattle.reasons.proofs.Whys.{drawn_whys}
use Rattle.reasons.proofs.listing.drawn_whys.Goals as goal

pub side-n-requires : goal.side-n-requires
side-n-requires c = ((left_reach c.requires.unit_long.2).b, (left_reach c.requires.unit_long.2).a)

pub label-i-requires : goal.label-i-requires
label-i-requires c = places_room _ _ _ (room_first _ _ (room_as (drawn_whys c.args.v c.args.t c.args.chain c.args.s c.backwards.ensures c.side-n.ensures refl) c.requires.room))

pub side-m-requires : goal.side-m-requires
side-m-requires c = ((right_reach c.requires.unit_long.2).a, (right_reach c.requires.unit_long.2).b)

pub label-j-requires : goal.label-j-requires
label-j-requires c = places_room _ _ _ (room_first _ _ (room_then _ c.label-i.ensures (room_as (drawn_whys c.args.v c.args.t c.args.chain c.args.s c.backwards.ensures c.side-n.ensures c.side-m.ensures) c.requires.room)))

pub meet_whys-requires : goal.meet_whys-requires
meet_whys-requires c = record { unit_long = c.requires.unit_long; room = room_then _ c.label-j.ensures (room_then _ c.label-i.ensures (room_as (drawn_whys c.args.v c.args.t c.args.chain c.args.s c.backwards.ensures c.side-n.ensures c.side-m.ensures) c.requires.room)) }

pub returns : goal.returns
returns c = runs_as (drawn_whys c.args.v c.args.t c.args.chain c.args.s c.backwards.ensures c.side-n.ensures c.side-m.ensures) (runs_then c.label-i.ensures (runs_then c.label-j.ensures c.meet_whys.ensures))
