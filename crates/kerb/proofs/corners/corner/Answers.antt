-- `kerb::corners::corner` meets its contract: by the bend, two edges through the vertex, then the outer side. Assumes nothing.
use mathlib.Core.Path.{◌∙◌}
use Rattle.runs.proofs.Laws.{room_first, room_then, room_as}
use Rattle.turning.proofs.Limits.{told, centre_near}
use Rattle.folds.proofs.Laid.{lays_as, lays_then}
use Rattle.kerb.proofs.CornerCases.{centre_of_lem, near_left_a, near_left_b, near_right_a, near_right_b, lays_two, off_shared, corner_left, corner_right}
use Rattle.kerb.proofs.corners.corner.Goals as goal

pub two-i-requires : goal.two-i-requires
two-i-requires c =
    let h = c.requires.unit_long in
    let k = centre_near (centre_of_lem c.centre-c.ensures h.2.around.b) in record { near = (near_left_a h.3, k, k, near_left_b h.2); room = room_first _ _ (room_as (corner_left _ _ _ _ c.centre-c.ensures (told c.bend.type_inv c.bend.ensures) c.if-bend-ge0.true) c.requires.room) }

pub outer-requires : goal.outer-requires
outer-requires c =
    let h = c.requires.unit_long in record { unit_long = (h.0, centre_of_lem c.centre-c.ensures h.2.around.b, h.1, off_shared c.centre-c.ensures h.2.right_b, off_shared (c.centre-c.ensures ∙ h.4) h.3.right_a); room = room_then _ c.two-i.ensures (room_as (corner_left _ _ _ _ c.centre-c.ensures (told c.bend.type_inv c.bend.ensures) c.if-bend-ge0.true) c.requires.room) }

pub returns-then-bend-ge0 : goal.returns-then-bend-ge0
returns-then-bend-ge0 c =
    let h = c.requires.unit_long in
    let k = centre_near (centre_of_lem c.centre-c.ensures h.2.around.b) in
    lays_as (corner_left _ _ _ _ c.centre-c.ensures (told c.bend.type_inv c.bend.ensures) c.if-bend-ge0.true) (lays_then (lays_two (near_left_a h.3) k k (near_left_b h.2) c.two-i.ensures) c.outer.ensures)

pub two-i-requires-else-bend-ge0 : goal.two-i-requires-else-bend-ge0
two-i-requires-else-bend-ge0 c =
    let h = c.requires.unit_long in
    let k = centre_near (centre_of_lem c.centre-c.ensures h.2.around.b) in record { near = (near_right_b h.2, k, k, near_right_a h.3); room = room_first _ _ (room_as (corner_right _ _ _ _ c.centre-c.ensures (told c.bend.type_inv c.bend.ensures) c.if-bend-ge0.false) c.requires.room) }

pub outer-requires-else-bend-ge0 : goal.outer-requires-else-bend-ge0
outer-requires-else-bend-ge0 c =
    let h = c.requires.unit_long in record { unit_long = (h.0, centre_of_lem c.centre-c.ensures h.2.around.b, h.1, off_shared (c.centre-c.ensures ∙ h.4) h.3.left_a, off_shared c.centre-c.ensures h.2.left_b); room = room_then _ c.two-i-else-bend-ge0.ensures (room_as (corner_right _ _ _ _ c.centre-c.ensures (told c.bend.type_inv c.bend.ensures) c.if-bend-ge0.false) c.requires.room) }

pub returns-else-bend-ge0 : goal.returns-else-bend-ge0
returns-else-bend-ge0 c =
    let h = c.requires.unit_long in
    let k = centre_near (centre_of_lem c.centre-c.ensures h.2.around.b) in
    lays_as (corner_right _ _ _ _ c.centre-c.ensures (told c.bend.type_inv c.bend.ensures) c.if-bend-ge0.false) (lays_then (lays_two (near_right_b h.2) k k (near_right_a h.3) c.two-i-else-bend-ge0.ensures) c.outer-else-bend-ge0.ensures)
