-- `joins::builder_join::right_join` meets its contract: an arc where it turns, else an edge. Assumes nothing.
use Rattle.runs.proofs.Laws.{room_as}
use Rattle.folds.proofs.Laid.{lays_edge, lays_as}
use Rattle.joins.proofs.CapsAndJoins.{contact_near, about_shared_right, right_arc, right_edge}
use Rattle.joins.proofs.builder_join.right_join.Goals as goal

pub arc_about-requires : goal.arc_about-requires
arc_about-requires c =
    let h = c.requires.unit_long in record { unit_long = (h.0, h.1.b, h.1.right_b, about_shared_right _ c.requires.unit_long.3 h.2); room = room_as (right_arc _ _ _ c.right_turns.ensures c.if-right_turns.true) c.requires.room }

pub returns-then-right_turns : goal.returns-then-right_turns
returns-then-right_turns c = lays_as (right_arc _ _ _ c.right_turns.ensures c.if-right_turns.true) c.arc_about.ensures

pub edge-requires : goal.edge-requires
edge-requires c =
    let h = c.requires.unit_long in record { near = (contact_near h.1.b h.1.right_b, contact_near h.2.a h.2.right_a); room = room_as (right_edge _ _ _ c.right_turns.ensures c.if-right_turns.false) c.requires.room }

pub returns-else-right_turns : goal.returns-else-right_turns
returns-else-right_turns c = lays_as (right_edge _ _ _ c.right_turns.ensures c.if-right_turns.false) (lays_edge (contact_near c.requires.unit_long.1.b c.requires.unit_long.1.right_b) (contact_near c.requires.unit_long.2.a c.requires.unit_long.2.right_a) c.edge.ensures)
