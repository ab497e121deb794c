-- `kerb::Tour::corner` meets its contract: a point that equals the one reached is passed over; else the corner to the section. Assumes nothing.
use Rattle.plane.proofs.Products.{same_told as points_told}
use Rattle.runs.proofs.Laws.{room_as}
use Rattle.folds.proofs.Laid.{lays_as, lays_none}
use Rattle.kerb.proofs.ClearSections.{step_whole}
use Rattle.kerb.proofs.TourCases.{same_told, meet_skip, meet_some, met_skip, met_some, clear_told, joins_told}
use Rattle.kerb.proofs.Tour.corner.Goals as goal

pub returns-then-eq : goal.returns-then-eq
returns-then-eq c =
    let e = same_told _ _ c.centre.ensures c.centre-2.ensures (points_told _ _ c.eq.ensures) c.if-eq.true in
    record { tour = met_skip _ _ e; made = lays_as (meet_skip _ _ e _ _ _) lays_none }

pub section-s-requires : goal.section-s-requires
section-s-requires c =
    let h = c.requires.unit_long in
    (h.2.inside, h.3.inside, step_whole h.2 h.3 (same_told _ _ c.centre.ensures c.centre-2.ensures (points_told _ _ c.eq.ensures) c.if-eq.false))

pub meet-n-requires : goal.meet-n-requires
meet-n-requires c =
    let h = c.requires.unit_long in
    let e = same_told _ _ c.centre.ensures c.centre-2.ensures (points_told _ _ c.eq.ensures) c.if-eq.false in record { unit_long = (h.0, h.1, joins_told _ _ _ c.section-s.ensures h.5, clear_told h.1 h.2 h.3 e c.section-s.ensures); room = room_as (meet_some _ _ e _ _ _ c.section-s.ensures) c.requires.room }

pub returns-else-eq : goal.returns-else-eq
returns-else-eq c =
    let e = same_told _ _ c.centre.ensures c.centre-2.ensures (points_told _ _ c.eq.ensures) c.if-eq.false in
    record { tour = met_some _ _ e c.section-s.ensures c.held.ensures; made = lays_as (meet_some _ _ e _ _ _ c.section-s.ensures) c.meet-n.ensures }
