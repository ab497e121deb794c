-- `kerb::Tour::corner_step` meets its contract: by whether there is more ahead. Assumes nothing.
use mathlib.Core.Path.{◌∙◌, sym}
use Rattle.runs.proofs.Laws.{room_as}
use Rattle.folds.proofs.Laid.{lays_as}
use Rattle.kerb.specs.Tours.{in_phase}
use Rattle.kerb.proofs.TourCases.{corners_more, met_more, corners_end, met_end, ready_joining, ready_closes}
use Rattle.kerb.proofs.Tour.corner_step.Goals as goal

pub corner-requires : goal.corner-requires
corner-requires c =
    let h = c.requires.unit_long in
    let r = h.2 in record { unit_long = (h.0, h.1, r.at, r.ahead c.if-more.true, r.next c.if-more.true, ready_joining c.args.pen.step _ _ _ _ r h.3); room = room_as (corners_more _ _ c.args.first _ _ c.if-more.true) c.requires.room }

pub returns-then-more : goal.returns-then-more
returns-then-more c = record { tour = c.corner.ensures.tour ∙ sym (met_more c.args.pen.step c.args.y _ _ _ c.if-more.true); made = lays_as (corners_more _ _ c.args.first _ _ c.if-more.true) c.corner.ensures.made }

pub closing-closed_at-requires : goal.closing-closed_at-requires
closing-closed_at-requires c =
    let h = c.requires.unit_long in record { unit_long = (h.0, h.1, ready_closes c.args.pen.step _ _ _ _ h.2 h.3 c.if-more.false); room = room_as (corners_end _ _ c.args.first _ _ c.if-more.false) c.requires.room }

pub returns-else-more : goal.returns-else-more
unfolding in_phase
returns-else-more c = record { tour = met_end c.args.pen.step c.args.y _ _ _ c.if-more.false; made = lays_as (corners_end _ _ c.args.first _ _ c.if-more.false) c.closing-closed_at.ensures }
