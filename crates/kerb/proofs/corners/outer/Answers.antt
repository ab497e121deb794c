-- `kerb::corners::outer` meets its contract: one law for each join. Assumes nothing.
use Rattle.runs.proofs.Laws.{room_as}
use Rattle.folds.proofs.Laid.{lays_edge, lays_as}
use Rattle.kerb.proofs.CornerCases.{off_near, outer_bevel, outer_round}
use Rattle.kerb.proofs.corners.outer.Goals as goal

pub edge-requires : goal.edge-requires
edge-requires c = record { near = (off_near c.requires.unit_long.3 c.requires.unit_long.1, off_near c.requires.unit_long.4 c.requires.unit_long.1); room = room_as (outer_bevel _ _ _ _ _ c.in-Bevel.is) c.requires.room }

pub round-requires : goal.round-requires
round-requires c = record { unit_long = c.requires.unit_long; room = room_as (outer_round _ _ _ _ _ c.in-Round.is) c.requires.room }

pub returns-in-Bevel : goal.returns-in-Bevel
returns-in-Bevel c = lays_as (outer_bevel _ _ _ _ _ c.in-Bevel.is) (lays_edge (off_near c.requires.unit_long.3 c.requires.unit_long.1) (off_near c.requires.unit_long.4 c.requires.unit_long.1) c.edge.ensures)

pub returns-in-Round : goal.returns-in-Round
returns-in-Round c = lays_as (outer_round _ _ _ _ _ c.in-Round.is) c.round.ensures
