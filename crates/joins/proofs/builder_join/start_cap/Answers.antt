-- `joins::builder_join::start_cap` meets its contract: one law for each cap. Assumes nothing.
use Rattle.runs.proofs.Laws.{room_as}
use Rattle.folds.proofs.Laid.{lays_edge, lays_as}
use Rattle.joins.proofs.CapsAndJoins.{contact_near, start_butt, start_round}
use Rattle.joins.proofs.builder_join.start_cap.Goals as goal

pub edge-requires : goal.edge-requires
edge-requires c =
    let h = c.requires.unit_long.1 in record { near = (contact_near h.a h.left_a, contact_near h.a h.right_a); room = room_as (start_butt _ _ c.in-Butt.is) c.requires.room }

pub arc_about-requires : goal.arc_about-requires
arc_about-requires c =
    let h = c.requires.unit_long in record { unit_long = (h.0, h.1.a, h.1.left_a, h.1.right_a); room = room_as (start_round _ _ c.in-Round.is c.start_choice.ensures) c.requires.room }

pub returns-in-Butt : goal.returns-in-Butt
returns-in-Butt c = lays_as (start_butt _ _ c.in-Butt.is) (lays_edge (contact_near c.requires.unit_long.1.a c.requires.unit_long.1.left_a) (contact_near c.requires.unit_long.1.a c.requires.unit_long.1.right_a) c.edge.ensures)

pub returns-in-Round : goal.returns-in-Round
returns-in-Round c = lays_as (start_round _ _ c.in-Round.is c.start_choice.ensures) c.arc_about.ensures
