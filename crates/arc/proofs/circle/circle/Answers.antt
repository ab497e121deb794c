-- `arc::circle::circle` meets its contract, either way. Assumes nothing.
use Rattle.runs.proofs.Laws.{room_as}
use Rattle.turning.proofs.Limits.{radius_told_lem}
use Rattle.folds.proofs.Laid.{lays_as}
use Rattle.arc.proofs.FromTable.{circle_bits}
use Rattle.arc.proofs.circle.circle.Goals as goal

pub fine_circle-requires : goal.fine_circle-requires
fine_circle-requires c = let h = c.requires.unit_long in record { step_value = (c.finest.ensures.finest c.if-finest.true, h.1, radius_told_lem h.2); room = room_as (circle_bits _ _ h.2) c.requires.room }

pub returns-then-finest : goal.returns-then-finest
returns-then-finest c = lays_as (circle_bits _ _ c.requires.unit_long.2) c.fine_circle.ensures

pub turned_circle-requires : goal.turned_circle-requires
turned_circle-requires c = let h = c.requires.unit_long in record { unit_long = (h.0, h.1, radius_told_lem h.2); room = room_as (circle_bits _ _ h.2) c.requires.room }

pub returns-else-finest : goal.returns-else-finest
returns-else-finest c = lays_as (circle_bits _ _ c.requires.unit_long.2) c.turned_circle.ensures
