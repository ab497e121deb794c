-- `kerb::touring::meet` meets its contract: the corner, if there is a last section. Assumes nothing.
use Rattle.runs.proofs.Laws.{room_as}
use Rattle.folds.proofs.Laid.{lays_as, lays_none}
use Rattle.kerb.proofs.TourCases.{meets_held, meets_none, joins_held}
use Rattle.kerb.proofs.touring.meet.Goals as goal

pub corner-requires : goal.corner-requires
corner-requires c =
    let h = c.requires.unit_long in
    let k = joins_held _ c.in-Some.is h.2 in record { unit_long = (h.0, h.1.radius, k.0, h.3, k.1); room = room_as (meets_held _ _ c.in-Some.is _) c.requires.room }

pub returns-in-Some : goal.returns-in-Some
returns-in-Some c = lays_as (meets_held _ _ c.in-Some.is _) c.corner.ensures

pub returns-in-None : goal.returns-in-None
returns-in-None c = lays_as (meets_none _ _ c.in-None.is _) lays_none
