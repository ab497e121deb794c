-- `variable_stroke::Chain::drawn` meets its contract: both sides, then the meeting. Assumes nothing.
use Rattle.runs.proofs.Laws.{room_first, room_then, room_as}
use Rattle.folds.proofs.Laid.{lays_edge, lays_as, lays_then}
use Rattle.joins.proofs.CapsAndJoins.{left_reach, right_reach}
use Rattle.variable_stroke.proofs.ChainSteps.{drawn_is}
use Rattle.variable_stroke.proofs.Chain.drawn.Goals as goal

pub edge-n-requires : goal.edge-n-requires
edge-n-requires c =
    let h = left_reach c.requires.unit_long.2 in record { near = (h.b, h.a); room = room_first _ _ (room_as (drawn_is _ _ _) c.requires.room) }

pub edge-m-requires : goal.edge-m-requires
edge-m-requires c =
    let h = right_reach c.requires.unit_long.2 in record { near = (h.a, h.b); room = room_first _ _ (room_then _ c.edge-n.ensures (room_as (drawn_is _ _ _) c.requires.room)) }

pub meet-requires : goal.meet-requires
meet-requires c = record { unit_long = c.requires.unit_long; room = room_then _ c.edge-m.ensures (room_then _ c.edge-n.ensures (room_as (drawn_is _ _ _) c.requires.room)) }

pub returns : goal.returns
returns c = lays_as (drawn_is _ _ _) (lays_then (lays_edge (left_reach c.requires.unit_long.2).b (left_reach c.requires.unit_long.2).a c.edge-n.ensures) (lays_then (lays_edge (right_reach c.requires.unit_long.2).a (right_reach c.requires.unit_long.2).b c.edge-m.ensures) c.meet.ensures))
