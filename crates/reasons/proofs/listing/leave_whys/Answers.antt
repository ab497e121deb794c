-- `reasons::listing::leave_whys` meets its contract: the chain is finished exactly where b is covered. Assumes nothing.
use Rattle.runs.proofs.Laws.{runs_as, runs_none, room_as}
use Rattle.reasons.proofs.Whys.{leave_whys_yes, leave_whys_no}
use Rattle.reasons.proofs.listing.leave_whys.Goals as goal

pub finish_whys-requires : goal.finish_whys-requires
finish_whys-requires c = record { unit_long = (c.requires.unit_long.0, c.requires.unit_long.1.chain); room = room_as (leave_whys_yes c.args.v c.args.t c.args.w c.args.b c.covered.ensures c.if-covered.true) c.requires.room }

pub returns-then-covered : goal.returns-then-covered
returns-then-covered c = runs_as (leave_whys_yes c.args.v c.args.t c.args.w c.args.b c.covered.ensures c.if-covered.true) c.finish_whys.ensures

pub returns-else-covered : goal.returns-else-covered
returns-else-covered c = runs_as (leave_whys_no c.args.v c.args.t c.args.w c.args.b c.covered.ensures c.if-covered.false) runs_none
