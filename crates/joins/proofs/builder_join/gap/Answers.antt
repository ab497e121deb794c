-- `joins::builder_join::gap` meets its contract: one cap after the other. Assumes nothing.
use Rattle.runs.proofs.Laws.{room_first, room_as}
use Rattle.folds.proofs.Laid.{lays_as, lays_then, room_past}
use Rattle.joins.proofs.CapsAndJoins.{gap_is}
use Rattle.joins.proofs.builder_join.gap.Goals as goal

pub end_cap-n-requires : goal.end_cap-n-requires
end_cap-n-requires c = record { unit_long = (c.requires.unit_long.0, c.requires.unit_long.1); room = room_first _ _ (room_as (gap_is _ _ _) c.requires.room) }

pub start_cap-requires : goal.start_cap-requires
start_cap-requires c = record { unit_long = (c.requires.unit_long.0, c.requires.unit_long.2); room = room_past _ c.end_cap-n.ensures (room_as (gap_is _ _ _) c.requires.room) }

pub returns : goal.returns
returns c = lays_as (gap_is _ _ _) (lays_then c.end_cap-n.ensures c.start_cap.ensures)
