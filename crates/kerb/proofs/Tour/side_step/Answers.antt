-- `kerb::Tour::side_step` meets its contract: by whether there is more ahead. Assumes nothing.
use mathlib.Core.Path.{◌∙◌, sym}
use Rattle.runs.proofs.Laws.{room_as}
use Rattle.folds.proofs.Laid.{lays_as, lays_none}
use Rattle.kerb.proofs.TourCases.{sides_more, sided_more, sides_end, sided_end}
use Rattle.kerb.proofs.Tour.side_step.Goals as goal

pub side-requires : goal.side-requires
side-requires c =
    let r = c.requires.styled.1 in record { styled = (c.requires.styled.0, r.at, r.ahead c.if-more.true, r.next c.if-more.true); room = room_as (sides_more _ _ c.args.first _ _ c.if-more.true) c.requires.room }

pub returns-then-more : goal.returns-then-more
returns-then-more c = record { tour = c.side.ensures.tour ∙ sym (sided_more c.args.pen.step c.args.y _ _ _ c.if-more.true); made = lays_as (sides_more _ _ c.args.first _ _ c.if-more.true) c.side.ensures.made }

pub returns-else-more : goal.returns-else-more
returns-else-more c = record { tour = sided_end c.args.pen.step c.args.y _ _ _ c.if-more.false c.at_corners.ensures; made = lays_as (sides_end _ _ c.args.first _ _ c.if-more.false) lays_none }
