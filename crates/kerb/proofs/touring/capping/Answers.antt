-- `kerb::touring::capping` meets its contract: both caps, if there are sections and the kerb does not close. Assumes nothing.
use Rattle.runs.proofs.Laws.{room_as}
use Rattle.folds.proofs.Laid.{lays_as, lays_none}
use Rattle.kerb.specs.Tours.{caps_both}
use Rattle.kerb.proofs.CornerCases.{lays_two, near_left_a, near_left_b, near_right_a, near_right_b}
use Rattle.kerb.proofs.TourCases.{caps_closed, caps_open, caps_none, capped_held}
use Rattle.kerb.proofs.touring.capping.Goals as goal

pub returns-then-y : goal.returns-then-y
returns-then-y c = lays_as (caps_closed c.args.pen.step _ c.in-Some.is c.if-y.true) lays_none

pub caps-requires : goal.caps-requires
caps-requires c = record { clear = capped_held c.in-Some.is c.requires.capped; room = room_as (caps_open c.args.pen.step _ c.in-Some.is c.if-y.false) c.requires.room }

pub returns-else-y : goal.returns-else-y
unfolding caps_both
returns-else-y c =
    let k = capped_held c.in-Some.is c.requires.capped in
    lays_as (caps_open c.args.pen.step _ c.in-Some.is c.if-y.false) (lays_two (near_left_a k.0) (near_right_a k.0) (near_right_b k.1) (near_left_b k.1) c.caps.ensures)

pub returns-in-None : goal.returns-in-None
returns-in-None c = lays_as (caps_none c.args.pen.step _ c.in-None.is) lays_none
