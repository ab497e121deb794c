-- `joins::builder_join::left_join` meets its contract: an arc where it turns, else an edge. Assumes nothing.
use Rattle.runs.proofs.Laws.{room_as}
use Rattle.folds.proofs.Laid.{lays_edge, lays_as}
use Rattle.joins.proofs.CapsAndJoins.{contact_near, about_shared_left, left_arc, left_edge}
use Rattle.joins.proofs.builder_join.left_join.Goals as goal

pub arc_about-requires : goal.arc_about-requires
arc_about-requires c =
    let h = c.requires.unit_long in record { unit_long = (h.0, h.2.a, h.2.left_a, about_shared_left _ c.requires.unit_long.3 h.1); room = room_as (left_arc _ _ _ c.left_turns.ensures c.if-left_turns.true) c.requires.room }

pub returns-then-left_turns : goal.returns-then-left_turns
returns-then-left_turns c = lays_as (left_arc _ _ _ c.left_turns.ensures c.if-left_turns.true) c.arc_about.ensures

pub edge-requires : goal.edge-requires
edge-requires c =
    let h = c.requires.unit_long in record { near = (contact_near h.2.a h.2.left_a, contact_near h.1.b h.1.left_b); room = room_as (left_edge _ _ _ c.left_turns.ensures c.if-left_turns.false) c.requires.room }

pub returns-else-left_turns : goal.returns-else-left_turns
returns-else-left_turns c = lays_as (left_edge _ _ _ c.left_turns.ensures c.if-left_turns.false) (lays_edge (contact_near c.requires.unit_long.2.a c.requires.unit_long.2.left_a) (contact_near c.requires.unit_long.1.b c.requires.unit_long.1.left_b) c.edge.ensures)
