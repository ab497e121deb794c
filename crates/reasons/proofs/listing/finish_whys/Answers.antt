-- `reasons::listing::finish_whys` meets its contract: the finish counted, and named by what ends it. Assumes nothing.
use Rattle.runs.proofs.Laws.{runs_as, room_as}
use Rattle.reasons.proofs.Listed.{places_room}
use Rattle.reasons.proofs.Whys.{finish_whys}
use Rattle.reasons.proofs.listing.finish_whys.Goals as goal

pub label-requires : goal.label-requires
label-requires c = places_room _ _ _ (room_as (finish_whys c.args.v c.args.t c.args.chain c.args.cap c.end_reason.ensures c.finish-n.ensures) c.requires.room)

pub returns : goal.returns
returns c = runs_as (finish_whys c.args.v c.args.t c.args.chain c.args.cap c.end_reason.ensures c.finish-n.ensures) c.label.ensures
