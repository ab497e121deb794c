-- `arc::fine::fine_circle` meets its contract: each half of the circle is folded, counted or written along the table. Assumes nothing.
use mathlib.Core.Path.{refl, sym, ap}
use mathlib.Core.Bool.{true, false}
use Prim.Native.Nat.{ℕ, ◌+◌}
use native.Mathlib.Omega.{arith}
use Rattle.runs.proofs.Laws.{runs_as, runs_to, runs_then, room_as, room_first, room_then}
use Rattle.plane.proofs.Directions.{step_unit}
use Rattle.turning.proofs.Limits.{radius_back}
use Rattle.turning.proofs.Cases.{circle_none}
use Rattle.turning.proofs.Reach.{circle_reach}
use Rattle.turning.proofs.Stored.{edges_past}
use Rattle.half_turn.specs.Pairs.{axis_of}
use Rattle.half_turn.proofs.Halves.{axis_unit}
use Rattle.folds.proofs.Laid.{lays_runs, lays_none, lays_as, lays_then, room_past}
use Rattle.folds.proofs.Eleven.{lays_may}
use Rattle.arc.proofs.FromTable.{fine_halves, east_near, west_near, first_turns, second_turns, first_bends, second_bends, fine_size}
use Rattle.arc.proofs.fine.fine_circle.Goals as goal

pub returns-then-radius-le1 : goal.returns-then-radius-le1
returns-then-radius-le1 c = lays_as (circle_none _ _ (radius_back c.requires.step_value.2) c.if-radius-le1.true) lays_none

-- folded
pub fold_counted-n-requires : goal.fold_counted-n-requires
unfolding axis_of
fold_counted-n-requires c =
    let h = c.requires.step_value in
    let m = c.if-radius-le1.false in
    let i = c.east-e.ensures in
    let j = c.west-w.ensures in record { turns = (first_turns _ _ _ h.0 h.1 h.2 m i j, axis_unit false, east_near _ _ _ h.0 h.1 h.2 m i j, first_bends _ _ _ h.0 h.1 h.2 m i j c.if-radius-ge512.true, omega arith); room = room_first _ _ (room_as (fine_halves _ _ _ h.0 h.1 h.2 m i j) c.requires.room) }

pub fold_counted-requires : goal.fold_counted-requires
unfolding axis_of
fold_counted-requires c =
    let h = c.requires.step_value in
    let m = c.if-radius-le1.false in
    let i = c.east-e.ensures in
    let j = c.west-w.ensures in record { turns = (second_turns _ _ _ h.0 h.1 h.2 m i j, axis_unit true, west_near _ _ _ h.0 h.1 h.2 m i j, second_bends _ _ _ h.0 h.1 h.2 m i j c.if-radius-ge512.true, omega arith); room = room_past _ c.fold_counted-n.ensures (room_as (fine_halves _ _ _ h.0 h.1 h.2 m i j) c.requires.room) }

pub returns-then-radius-ge512 : goal.returns-then-radius-ge512
unfolding axis_of
returns-then-radius-ge512 c =
    let h = c.requires.step_value in
    lays_as (fine_halves _ _ _ h.0 h.1 h.2 c.if-radius-le1.false c.east-e.ensures c.west-w.ensures) (lays_may c.if-pen.true (lays_then c.fold_counted-n.ensures c.fold_counted.ensures))

-- counted
pub overflow_add-result : goal.overflow_add-result
overflow_add-result c =
    let h = c.requires.step_value in
    omega (arith, fine_size _ _ _ h.0 h.1 h.2 c.if-radius-le1.false c.east-e.ensures c.west-w.ensures c.if-radius-ge512-2.true, c.requires.room.fits)

pub returns-then-radius-ge512-2 : goal.returns-then-radius-ge512-2
returns-then-radius-ge512-2 c =
    let h = c.requires.step_value in
    let size = fine_size _ _ _ h.0 h.1 h.2 c.if-radius-le1.false c.east-e.ensures c.west-w.ensures c.if-radius-ge512-2.true in
    lays_runs (circle_reach _ _ _ (step_unit 8 h.0) h.1 h.2) (runs_to (ap (λ (n : ℕ). c.args.at + n) (sym size)) (edges_past _ c.if-out-at.true))

-- along the table
pub half_turns-n-requires : goal.half_turns-n-requires
unfolding axis_of
half_turns-n-requires c =
    let h = c.requires.step_value in
    let m = c.if-radius-le1.false in
    let i = c.east-e.ensures in
    let j = c.west-w.ensures in record { turns = (first_turns _ _ _ h.0 h.1 h.2 m i j, east_near _ _ _ h.0 h.1 h.2 m i j, h.0, refl); room = room_first _ _ (room_as (fine_halves _ _ _ h.0 h.1 h.2 m i j) c.requires.room) }

pub half_turns-requires : goal.half_turns-requires
unfolding axis_of
half_turns-requires c =
    let h = c.requires.step_value in
    let m = c.if-radius-le1.false in
    let i = c.east-e.ensures in
    let j = c.west-w.ensures in record { turns = (second_turns _ _ _ h.0 h.1 h.2 m i j, west_near _ _ _ h.0 h.1 h.2 m i j, h.0, refl); room = room_then _ c.half_turns-n.ensures (room_as (fine_halves _ _ _ h.0 h.1 h.2 m i j) c.requires.room) }

pub returns-else-out-at : goal.returns-else-out-at
unfolding axis_of
returns-else-out-at c =
    let h = c.requires.step_value in
    let whole = runs_as (fine_halves _ _ _ h.0 h.1 h.2 c.if-radius-le1.false c.east-e.ensures c.west-w.ensures) (runs_then c.half_turns-n.ensures c.half_turns.ensures) in
    lays_runs (circle_reach _ _ _ (step_unit 8 h.0) h.1 h.2) whole
