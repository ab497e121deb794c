-- `joins::builder_join::arc_about` meets its contract: the arc about the centre, at the radius. Assumes nothing.
use Rattle.runs.proofs.Laws.{room_as}
use Rattle.folds.proofs.Laid.{lays_as}
use Rattle.joins.proofs.CapsAndJoins.{arc_about_is}
use Rattle.contacts.proofs.Contacts.{centre_is}
use Rattle.joins.proofs.builder_join.arc_about.Goals as goal

pub arc-requires : goal.arc-requires
arc-requires c =
    let h = c.requires.unit_long in
    let e = c.centre.ensures in record { unit_long = (h.0, rw e (centre_is h.1), rw e h.2, rw e h.3); room = room_as (arc_about_is _ _ _ _ _ e) c.requires.room }

pub returns : goal.returns
returns c = lays_as (arc_about_is _ _ _ _ _ c.centre.ensures) c.arc.ensures
