-- `arc::arcs::arc` meets its contract: one case of the rule for each way to return. Assumes nothing.
use mathlib.Core.Path.{◌≡◌, refl, sym, ◌∙◌}
use mathlib.Core.List.{◌++◌}
use Prim.Native.Nat.{◌<◌}
use native.Mathlib.Omega.{arith}
use lib.IntN.{ℤ}
use mir.Syntax.{w64}
use mir.Val.{to_z}
use Rattle.runs.proofs.Laws.{room_as}
use Rattle.plane.specs.Vectors.{Near, from_to, square_of}
use Rattle.plane.specs.Directions.{UnitLong}
use Rattle.plane.proofs.Directions.{unit_short}
use Rattle.turning.specs.Edges.{edge_of}
use Rattle.turning.specs.Arcs.{ring_of, turns_of, circle_of, swept_of, arc_of}
use Rattle.turning.specs.Bounds.{Turns}
use Rattle.turning.proofs.Limits.{centre_near, told, next_unit}
use Rattle.turning.proofs.Rays.{about_near, short_told, ring_radius, ring_told, not_empty_some, some_told, unit_told}
use Rattle.turning.proofs.Cases.{arc_empty, arc_full, arc_swept, swept_turns, turns_stop}
use Rattle.turning.proofs.Reach.{turns_reach}
use Rattle.folds.proofs.Laid.{lays_none, lays_runs, lays_as, lays_edge}
use Rattle.folds.proofs.Eleven.{lays_may}
use Rattle.arc.proofs.arcs.arc.Goals.{After-measured-k, After-rounded-radius, Else-empty, Else-full, Then-full, Then-stops}
use Rattle.arc.proofs.arcs.arc.Goals as goal

-- both rays have directions
some : (c : Else-empty) → let a = c.args in (0 < square_of (from_to a.c a.p)) × (0 < square_of (from_to a.c a.q))
some c = not_empty_some _ _ _ _ (sym c.empty.ensures ∙ c.if-empty.false)

-- the rule's last two cases
full_arc : (c : Then-full) → let a = c.args in arc_of a.pen.step a.c (ring_of (from_to a.c a.p)) a.p a.q a.choice ≡ circle_of a.pen.step a.c (ring_of (from_to a.c a.p)) ++ edge_of a.p a.q
full_arc c =
    arc_full _ _ _ _ _ _ c.from_to-m.ensures c.from_to-n.ensures c.sweep-w.ensures c.empty.ensures c.if-empty.false
    c.direction-d.ensures c.direction-e.ensures c.full.ensures c.if-full.true

swept_arc : (c : Else-full) → let a = c.args in
    arc_of a.pen.step a.c (ring_of (from_to a.c a.p)) a.p a.q a.choice ≡ swept_of a.pen.step a.c (ring_of (from_to a.c a.p)) a.p a.q
swept_arc c =
    arc_swept _ _ _ _ _ _ c.from_to-m.ensures c.from_to-n.ensures c.sweep-w.ensures c.empty.ensures c.if-empty.false
    c.direction-d.ensures c.direction-e.ensures c.full.ensures c.if-full.false

-- the directions of its ends
units : (c : Else-full) → UnitLong c.direction-d.result × UnitLong c.direction-e.result
units c =
    let s = some c.before.before.before.before.before.before in
    (unit_told c.from_to-m.ensures s.0 c.direction-d.ensures, unit_told c.from_to-n.ensures s.1 c.direction-e.ensures)

turned_arc : (c : Else-full) {s : ℤ} → let a = c.args in s ≡ ring_of (from_to a.c a.p)
    → arc_of a.pen.step a.c (ring_of (from_to a.c a.p)) a.p a.q a.choice
    ≡ turns_of 1536 (record { step = a.pen.step; centre = a.c; radius = s; to = a.q; toward = c.direction-e.result }) c.direction-d.result a.p
turned_arc c e =
    swept_arc c ∙ swept_turns _ _ _ _ _ e c.from_to-m.ensures c.from_to-n.ensures c.direction-d.ensures c.direction-e.ensures

-- it has no inner point
stopped_arc : (c : Then-stops) → let a = c.args in
    arc_of a.pen.step a.c (ring_of (from_to a.c a.p)) a.p a.q a.choice ≡ edge_of a.p a.q
stopped_arc c = turned_arc c.before.before.before.before.before refl ∙ turns_stop _ _ _ _ (omega arith) c.rotated-next.ensures c.stops.ensures c.if-stops.true

-- the radius of its inner points
radius : (c : After-rounded-radius) → let a = c.args in to_z w64 c.rounded-radius.result ≡ ring_of (from_to a.c a.p)
radius c =
    ring_told c.requires.unit_long.2 c.from_to-m.ensures c.measured-k.ensures.square c.rounded-radius.ensures

-- what it keeps while it turns, within the limits
kept : (c : After-rounded-radius) → let a = c.args in
    Turns (record { step = a.pen.step; centre = a.c; radius = to_z w64 c.rounded-radius.result; to = a.q; toward = c.direction-e.result }) × UnitLong c.direction-d.result × Near a.p
kept c =
    let h = c.requires.unit_long in
    let u = units c.before.before.before.before.before.before in
    (record { step = h.0; centre = h.1; radius = rw (radius c) (ring_radius h.2); to = about_near h.3 h.1; toward = u.1 }, u.0, about_near h.2 h.1)

pub from_to-m-requires : goal.from_to-m-requires
from_to-m-requires c = (centre_near c.requires.unit_long.1, about_near c.requires.unit_long.2 c.requires.unit_long.1)

pub from_to-n-requires : goal.from_to-n-requires
from_to-n-requires c = (centre_near c.requires.unit_long.1, about_near c.requires.unit_long.3 c.requires.unit_long.1)

pub sweep-w-requires : goal.sweep-w-requires
sweep-w-requires c = (short_told c.requires.unit_long.2 c.from_to-m.ensures, short_told c.requires.unit_long.3 c.from_to-n.ensures)

pub returns-then-empty : goal.returns-then-empty
returns-then-empty c = lays_as (arc_empty _ _ _ _ _ _ c.from_to-m.ensures c.from_to-n.ensures c.sweep-w.ensures c.empty.ensures c.if-empty.true) lays_none

pub measured-k-requires : goal.measured-k-requires
measured-k-requires c = (short_told c.requires.unit_long.2 c.from_to-m.ensures, some_told c.from_to-m.ensures (some c).0)

pub measured-l-requires : goal.measured-l-requires
measured-l-requires c = (short_told c.requires.unit_long.3 c.from_to-n.ensures, some_told c.from_to-n.ensures (some (goal.at.measured-l-requires c).Else-empty).1)

pub direction-d-requires : goal.direction-d-requires
direction-d-requires c = let h = measured-k-requires (goal.at.direction-d-requires c).Else-empty in (h.0, h.1, c.measured-k.ensures)

pub direction-e-requires : goal.direction-e-requires
direction-e-requires c = let h = measured-l-requires (goal.at.direction-e-requires c).After-measured-k in (h.0, h.1, c.measured-l.ensures)

pub full-requires : goal.full-requires
full-requires c =
    let s = some (goal.at.full-requires c).Else-empty in
    (unit_told c.from_to-m.ensures s.0 c.direction-d.ensures, unit_told c.from_to-n.ensures s.1 c.direction-e.ensures)

pub ring-requires : goal.ring-requires
ring-requires c =
    let h = c.requires.unit_long in record { unit_long = (h.0, h.1, h.2, h.3); room = room_as (full_arc (goal.at.ring-requires c).Then-full) c.requires.room }

pub returns-then-full : goal.returns-then-full
returns-then-full c = lays_as (full_arc (goal.at.returns-then-full c).Then-full) c.ring.ensures

pub rotated-next-requires : goal.rotated-next-requires
rotated-next-requires c = (c.requires.unit_long.0, (units (goal.at.rotated-next-requires c).Else-full).0)

pub cross-requires : goal.cross-requires
cross-requires c = let u = units (goal.at.cross-requires c).Else-full in (unit_short u.0, unit_short u.1)

pub stops-requires : goal.stops-requires
stops-requires c =
    let u = units (goal.at.stops-requires c).Else-full in
    (u.0, next_unit c.requires.unit_long.0 u.0 c.rotated-next.ensures, u.1, told c.cross.type_inv c.cross.ensures)

pub edge-requires : goal.edge-requires
edge-requires c =
    let h = c.requires.unit_long in record { near = (about_near h.2 h.1, about_near h.3 h.1); room = room_as (stopped_arc (goal.at.edge-requires c).Then-stops) c.requires.room }

pub returns-then-stops : goal.returns-then-stops
returns-then-stops c =
    let h = c.requires.unit_long in
    lays_as (stopped_arc (goal.at.returns-then-stops c).Then-stops) (lays_edge (about_near h.2 h.1) (about_near h.3 h.1) c.edge.ensures)

pub fold-requires : goal.fold-requires
fold-requires c = record { turns = kept (goal.at.fold-requires c).After-rounded-radius; room = room_as (turned_arc (goal.at.fold-requires c).Else-full (radius (goal.at.fold-requires c).After-rounded-radius)) c.requires.room }

pub returns-then-pen : goal.returns-then-pen
returns-then-pen c =
    lays_as (turned_arc (goal.at.returns-then-pen c).Else-full (radius (goal.at.returns-then-pen c).After-rounded-radius)) (lays_may c.if-pen.true c.fold.ensures)

pub turns-requires : goal.turns-requires
turns-requires c =
    let h = kept (goal.at.turns-requires c).After-rounded-radius in record { turns = h.0; unit_long = (h.1, h.2); room = room_as (turned_arc (goal.at.turns-requires c).Else-full (radius (goal.at.turns-requires c).After-rounded-radius)) c.requires.room }

pub returns-else-pen : goal.returns-else-pen
returns-else-pen c =
    let h = kept (goal.at.returns-else-pen c).After-rounded-radius in
    lays_as (turned_arc (goal.at.returns-else-pen c).Else-full (radius (goal.at.returns-else-pen c).After-rounded-radius)) (lays_runs (turns_reach 1536 _ _ _ h.0 h.1 h.2) c.turns.ensures)
