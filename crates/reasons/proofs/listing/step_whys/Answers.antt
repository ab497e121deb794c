-- `reasons::listing::step_whys` meets its contract: by the kind of the step. Assumes nothing.
use mathlib.Core.Path.{sym, ◌∙◌}
use Rattle.runs.proofs.Laws.{runs_as, room_as}
use Rattle.reasons.proofs.Listed.{places_room}
use Rattle.reasons.proofs.Whys.{step_whys_broken, step_whys_thin}
use Rattle.reasons.proofs.listing.step_whys.Goals as goal

pub label-requires : goal.label-requires
label-requires c = places_room _ _ _ (room_as (step_whys_broken c.args.v c.args.t c.args.w c.args.b (sym c.kind.ensures ∙ c.in-Broken.is) c.end_reason.ensures c.requires.unit_long.3) c.requires.room)

pub leave_whys-requires : goal.leave_whys-requires
leave_whys-requires c = record { unit_long = (c.requires.unit_long.0, c.requires.unit_long.1, c.requires.unit_long.2); room = room_as (step_whys_thin c.args.v c.args.t c.args.w c.args.b (sym c.kind.ensures ∙ c.in-Thin.is)) c.requires.room }

pub returns-in-Broken : goal.returns-in-Broken
returns-in-Broken c = runs_as (step_whys_broken c.args.v c.args.t c.args.w c.args.b (sym c.kind.ensures ∙ c.in-Broken.is) c.end_reason.ensures c.requires.unit_long.3) c.label.ensures

pub returns-in-Thin : goal.returns-in-Thin
returns-in-Thin c = runs_as (step_whys_thin c.args.v c.args.t c.args.w c.args.b (sym c.kind.ensures ∙ c.in-Thin.is)) c.leave_whys.ensures
