-- `joins::builder_join::end_cap` meets its contract: one law for each cap. Assumes nothing.
use Rattle.runs.proofs.Laws.{room_as}
use Rattle.folds.proofs.Laid.{lays_edge, lays_as}
use Rattle.joins.proofs.CapsAndJoins.{contact_near, end_butt, end_round}
use Rattle.joins.proofs.builder_join.end_cap.Goals as goal

pub edge-requires : goal.edge-requires
edge-requires c =
    let h = c.requires.unit_long.1 in record { near = (contact_near h.b h.right_b, contact_near h.b h.left_b); room = room_as (end_butt _ _ c.in-Butt.is) c.requires.room }

pub arc_about-requires : goal.arc_about-requires
arc_about-requires c =
    let h = c.requires.unit_long in record { unit_long = (h.0, h.1.b, h.1.right_b, h.1.left_b); room = room_as (end_round _ _ c.in-Round.is c.end_choice.ensures) c.requires.room }

pub returns-in-Butt : goal.returns-in-Butt
returns-in-Butt c = lays_as (end_butt _ _ c.in-Butt.is) (lays_edge (contact_near c.requires.unit_long.1.b c.requires.unit_long.1.right_b) (contact_near c.requires.unit_long.1.b c.requires.unit_long.1.left_b) c.edge.ensures)

pub returns-in-Round : goal.returns-in-Round
returns-in-Round c = lays_as (end_round _ _ c.in-Round.is c.end_choice.ensures) c.arc_about.ensures
