-- `reasons::listing::join_whys` meets its contract: about one centre left and then right, else the gap. Assumes nothing.
use Rattle.plane.proofs.Products.{same_told as points_told}
use mathlib.Core.Path.{refl}
use Rattle.runs.proofs.Laws.{runs_as, runs_then, room_first, room_then, room_as}
use Rattle.joins.proofs.CapsAndJoins.{centres_told}
use Rattle.reasons.proofs.Listed.{places_room}
use Rattle.reasons.proofs.Whys.{join_whys_met, join_whys_gap}
use Rattle.reasons.proofs.listing.join_whys.Goals as goal

pub left-n-requires : goal.left-n-requires
left-n-requires c = (c.requires.unit_long.0, c.requires.unit_long.1, c.requires.unit_long.2, (centres_told _ _ c.centre.ensures c.centre-2.ensures (points_told _ _ c.eq.ensures) c.if-eq.true))

pub label-i-requires : goal.label-i-requires
label-i-requires c = places_room _ _ _ (room_first _ _ (room_as (join_whys_met c.args.v c.args.t c.args.prev c.args.next (centres_told _ _ c.centre.ensures c.centre-2.ensures (points_told _ _ c.eq.ensures) c.if-eq.true) c.left-n.ensures refl) c.requires.room))

pub right-m-requires : goal.right-m-requires
right-m-requires c = (c.requires.unit_long.0, c.requires.unit_long.1, c.requires.unit_long.2, (centres_told _ _ c.centre.ensures c.centre-2.ensures (points_told _ _ c.eq.ensures) c.if-eq.true))

pub label-requires : goal.label-requires
label-requires c = places_room _ _ _ (room_then _ c.label-i.ensures (room_as (join_whys_met c.args.v c.args.t c.args.prev c.args.next (centres_told _ _ c.centre.ensures c.centre-2.ensures (points_told _ _ c.eq.ensures) c.if-eq.true) c.left-n.ensures c.right-m.ensures) c.requires.room))

pub returns-then-eq : goal.returns-then-eq
returns-then-eq c = runs_as (join_whys_met c.args.v c.args.t c.args.prev c.args.next (centres_told _ _ c.centre.ensures c.centre-2.ensures (points_told _ _ c.eq.ensures) c.if-eq.true) c.left-n.ensures c.right-m.ensures) (runs_then c.label-i.ensures c.label.ensures)

pub label-requires-else-eq : goal.label-requires-else-eq
label-requires-else-eq c = places_room _ _ _ (room_as (join_whys_gap c.args.v c.args.t c.args.prev c.args.next (centres_told _ _ c.centre.ensures c.centre-2.ensures (points_told _ _ c.eq.ensures) c.if-eq.false) c.across-n.ensures) c.requires.room)

pub returns-else-eq : goal.returns-else-eq
returns-else-eq c = runs_as (join_whys_gap c.args.v c.args.t c.args.prev c.args.next (centres_told _ _ c.centre.ensures c.centre-2.ensures (points_told _ _ c.eq.ensures) c.if-eq.false) c.across-n.ensures) c.label-else-eq.ensures
