-- `kerb::touring::closing` meets its contract: the corner, if there are sections and the kerb closes. Assumes nothing.
use Rattle.runs.proofs.Laws.{room_as}
use Rattle.folds.proofs.Laid.{lays_as, lays_none}
use Rattle.kerb.proofs.TourCases.{closing_held, closing_open, closing_none, closes_held}
use Rattle.kerb.proofs.touring.closing.Goals as goal

pub corner-requires : goal.corner-requires
corner-requires c =
    let h = c.requires.unit_long in
    let k = closes_held _ c.in-Some.is h.2 in record { unit_long = (h.0, h.1.radius, k.1, k.0, k.2 c.if-y.true); room = room_as (closing_held _ _ c.in-Some.is c.if-y.true) c.requires.room }

pub returns-then-y : goal.returns-then-y
returns-then-y c = lays_as (closing_held _ _ c.in-Some.is c.if-y.true) c.corner.ensures

pub returns-else-y : goal.returns-else-y
returns-else-y c = lays_as (closing_open _ _ c.in-Some.is c.if-y.false) lays_none

pub returns-in-None : goal.returns-in-None
returns-in-None c = lays_as (closing_none _ _ c.in-None.is) lays_none
