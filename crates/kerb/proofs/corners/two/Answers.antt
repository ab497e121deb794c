-- `kerb::corners::two` meets its contract: one edge after the other. Assumes nothing.
use Rattle.runs.proofs.Laws.{runs_then, room_first, room_then}
use Rattle.kerb.proofs.corners.two.Goals as goal

pub edge-i-requires : goal.edge-i-requires
edge-i-requires c = record { near = (c.requires.near.0, c.requires.near.1); room = room_first _ _ c.requires.room }

pub edge-requires : goal.edge-requires
edge-requires c = record { near = (c.requires.near.2, c.requires.near.3); room = room_then _ c.edge-i.ensures c.requires.room }

pub returns : goal.returns
returns c = runs_then c.edge-i.ensures c.edge.ensures
