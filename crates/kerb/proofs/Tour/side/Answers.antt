-- `kerb::Tour::side` meets its contract: a point that equals the one reached is passed over; else the section's edges. Assumes nothing.
use Rattle.plane.proofs.Products.{same_told as points_told}
use Rattle.runs.proofs.Laws.{room_as}
use Rattle.folds.proofs.Laid.{lays_as, lays_none}
use Rattle.kerb.specs.Tours.{sides_of}
use Rattle.kerb.proofs.ClearSections.{step_whole}
use Rattle.kerb.proofs.CornerCases.{lays_two, near_left_a, near_left_b, near_right_a, near_right_b}
use Rattle.kerb.proofs.TourCases.{same_told, side_skip, side_some, sided_skip, sided_some, clear_told}
use Rattle.kerb.proofs.Tour.side.Goals as goal

pub returns-then-eq : goal.returns-then-eq
returns-then-eq c =
    let e = same_told _ _ c.centre.ensures c.centre-2.ensures (points_told _ _ c.eq.ensures) c.if-eq.true in
    record { tour = sided_skip _ _ e; made = lays_as (side_skip _ _ e) lays_none }

pub section-requires : goal.section-requires
section-requires c =
    let h = c.requires.styled in
    (h.1.inside, h.2.inside, step_whole h.1 h.2 (same_told _ _ c.centre.ensures c.centre-2.ensures (points_told _ _ c.eq.ensures) c.if-eq.false))

pub sides-n-requires : goal.sides-n-requires
sides-n-requires c =
    let h = c.requires.styled in
    let e = same_told _ _ c.centre.ensures c.centre-2.ensures (points_told _ _ c.eq.ensures) c.if-eq.false in record { clear = clear_told h.0 h.1 h.2 e c.section.ensures; room = room_as (side_some _ _ e c.section.ensures) c.requires.room }

pub returns-else-eq : goal.returns-else-eq
unfolding sides_of
returns-else-eq c =
    let h = c.requires.styled in
    let e = same_told _ _ c.centre.ensures c.centre-2.ensures (points_told _ _ c.eq.ensures) c.if-eq.false in
    let w = clear_told h.0 h.1 h.2 e c.section.ensures in
    record { tour = sided_some _ _ e; made = lays_as (side_some _ _ e c.section.ensures) (lays_two (near_left_b w) (near_left_a w) (near_right_a w) (near_right_b w) c.sides-n.ensures) }
