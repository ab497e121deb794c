-- `joins::builder_join::join` meets its contract: about one centre left and then right, else the gap. Assumes nothing.
use Rattle.plane.proofs.Products.{same_told as points_told}
use Rattle.runs.proofs.Laws.{room_first, room_as}
use Rattle.folds.proofs.Laid.{lays_as, lays_then, room_past}
use Rattle.joins.proofs.CapsAndJoins.{centres_told, join_met, join_gap}
use Rattle.joins.proofs.builder_join.join.Goals as goal

pub left_join-n-requires : goal.left_join-n-requires
left_join-n-requires c =
    let e = centres_told _ _ c.centre.ensures c.centre-2.ensures (points_told _ _ c.eq.ensures) c.if-eq.true in record { unit_long = (c.requires.unit_long.0, c.requires.unit_long.1, c.requires.unit_long.2, e); room = room_first _ _ (room_as (join_met _ _ _ e) c.requires.room) }

pub right_join-requires : goal.right_join-requires
right_join-requires c =
    let e = centres_told _ _ c.centre.ensures c.centre-2.ensures (points_told _ _ c.eq.ensures) c.if-eq.true in record { unit_long = (c.requires.unit_long.0, c.requires.unit_long.1, c.requires.unit_long.2, e); room = room_past _ c.left_join-n.ensures (room_as (join_met _ _ _ e) c.requires.room) }

pub returns-then-eq : goal.returns-then-eq
returns-then-eq c = lays_as (join_met _ _ _ (centres_told _ _ c.centre.ensures c.centre-2.ensures (points_told _ _ c.eq.ensures) c.if-eq.true)) (lays_then c.left_join-n.ensures c.right_join.ensures)

pub gap-requires : goal.gap-requires
gap-requires c = record { unit_long = c.requires.unit_long; room = room_as (join_gap _ _ _ (centres_told _ _ c.centre.ensures c.centre-2.ensures (points_told _ _ c.eq.ensures) c.if-eq.false)) c.requires.room }

pub returns-else-eq : goal.returns-else-eq
returns-else-eq c = lays_as (join_gap _ _ _ (centres_told _ _ c.centre.ensures c.centre-2.ensures (points_told _ _ c.eq.ensures) c.if-eq.false)) c.gap.ensures
