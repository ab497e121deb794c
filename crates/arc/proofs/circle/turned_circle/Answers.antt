-- `arc::circle::turned_circle` meets its contract: both ends lie about the centre, due east and due west of it. Assumes nothing.
use mathlib.Core.Path.{◌≡◌}
use mathlib.Core.List.{◌++◌}
use Prim.Native.Nat.{◌+◌, ◌-◌, ◌^◌}
use borrow.Author.Tests.{not-true}
use native.Mathlib.Omega.{arith}
use Rattle.runs.specs.Runs.{Runs, put}
use Rattle.runs.proofs.Laws.{runs_as, room_as, room_first}
use lib.IntN.{pos, neg_ℤ}
use Rattle.plane.specs.Vectors.{from_to}
use Rattle.plane.specs.Directions.{direction_of}
use Rattle.plane.proofs.Products.{bits}
use Rattle.turning.specs.Edges.{edge_numbers}
use Rattle.turning.specs.Arcs.{swept_of, circle_of}
use Rattle.turning.specs.Bounds.{About}
use Rattle.turning.proofs.Limits.{radius_back, radius_told_lem}
use Rattle.turning.proofs.Rays.{east_told, west_told, eastward_unit, westward_unit, eastward_told, westward_told}
use Rattle.turning.proofs.Cases.{circle_none, circle_some}
use Rattle.turning.proofs.Reach.{circle_reach}
use Rattle.folds.proofs.Laid.{lays_runs, lays_none, lays_as, lays_then, lays_plain, room_past}
use Rattle.turning.proofs.Mirrored.{halves_alike, counted_twice}
use Rattle.arc.proofs.circle.turned_circle.Goals.{After-west-w, Then-out-at}
use Rattle.arc.proofs.circle.turned_circle.Goals as goal

-- its two ends, their directions, and its two arcs
east : (c : After-west-w) → About c.args.c c.east-e.result
east c = east_told _ (radius_told_lem c.requires.unit_long.2) c.east-e.ensures

west : (c : After-west-w) → About c.args.c c.west-w.result
west c = west_told _ (radius_told_lem c.requires.unit_long.2) c.west-w.ensures

eastward : (c : After-west-w) → record { x = pos (2 ^ 30); y = pos 0 } ≡ direction_of (from_to c.args.c c.east-e.result)
eastward c = eastward_told _ (bits c.args.radius) c.if-radius-le1.false c.east-e.ensures

westward : (c : After-west-w) → record { x = neg_ℤ (pos (2 ^ 30)); y = pos 0 } ≡ direction_of (from_to c.args.c c.west-w.result)
westward c = westward_told _ (bits c.args.radius) c.if-radius-le1.false c.west-w.ensures

halves : (c : After-west-w) →
    let a = c.args in
    let e = c.east-e.result in
    let w = c.west-w.result in
    circle_of a.pen.step a.c a.radius ≡ swept_of a.pen.step a.c (bits a.radius) e w ++ swept_of a.pen.step a.c (bits a.radius) w e
halves c = circle_some _ _ (radius_back c.requires.unit_long.2) c.if-radius-le1.false c.east-e.ensures c.west-w.ensures

pub returns-then-radius-le1 : goal.returns-then-radius-le1
returns-then-radius-le1 c = lays_as (circle_none _ _ (radius_back c.requires.unit_long.2) c.if-radius-le1.true) lays_none

pub swept-n-requires : goal.swept-n-requires
swept-n-requires c =
    let h = c.requires.unit_long in record { unit_long = (h.0, h.1, radius_told_lem h.2, east (goal.at.swept-n-requires c).After-west-w, west (goal.at.swept-n-requires c).After-west-w); unit_long_2 = (eastward_unit, westward_unit, eastward (goal.at.swept-n-requires c).After-west-w, westward (goal.at.swept-n-requires c).After-west-w); room = room_first _ _ (room_as (halves (goal.at.swept-n-requires c).After-west-w) c.requires.room) }

twice : (c : Then-out-at) →
    let a = c.args in
    let s = c.swept-n in
    Runs put edge_numbers a.out.now a.at (circle_of a.pen.step a.c a.radius) s.new.out (s.result + (s.result - a.at))
twice c =
    let alike = halves_alike _ _ (bits c.args.radius) c.if-radius-le1.false c.east-e.ensures c.west-w.ensures in
    runs_as (halves c.before.before.before.before.before.before) (counted_twice _ _ c.if-out-at.true alike (lays_plain (not-true c.args.pen.folds c.if-not-pen.true) c.swept-n.ensures))

pub returns-then-out-at : goal.returns-then-out-at
returns-then-out-at c =
    let h = c.requires.unit_long in
    lays_runs (circle_reach _ _ _ h.0 h.1 h.2) (twice c)

pub overflow_add-result : goal.overflow_add-result
overflow_add-result c = omega (arith, (twice c).pos, c.requires.room.fits)

pub swept-requires : goal.swept-requires
swept-requires c =
    let h = c.requires.unit_long in record { unit_long = (h.0, h.1, radius_told_lem h.2, west (goal.at.swept-requires c).After-west-w, east (goal.at.swept-requires c).After-west-w); unit_long_2 = (westward_unit, eastward_unit, westward (goal.at.swept-requires c).After-west-w, eastward (goal.at.swept-requires c).After-west-w); room = room_past _ c.swept-n.ensures (room_as (halves (goal.at.swept-requires c).After-west-w) c.requires.room) }

pub returns-else-not-pen : goal.returns-else-not-pen
returns-else-not-pen c = lays_as (halves (goal.at.returns-else-not-pen c).After-west-w) (lays_then c.swept-n.ensures c.swept.ensures)
