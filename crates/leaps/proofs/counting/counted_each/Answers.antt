-- `leaps::counting::counted_each` meets its contract: what is still to come is counted on from where the loop has come to. Assumes nothing.
use mathlib.Core.Path.{refl}
use Rattle.plane.proofs.Directions.{unit_short}
use Rattle.turning.proofs.Limits.{told, radius_told_lem, next_unit}
use Rattle.turning.proofs.Cases.{rotations_left, rotations_none, turns_end, turns_stop, turns_next}
use Rattle.leaps.proofs.Distinct.{far_back, count_as, count_done, count_room, step_room, step_count}
use Rattle.leaps.proofs.counting.counted_each.Goals as goal

pub least-l-requires : goal.least-l-requires
least-l-requires c = radius_told_lem c.requires.turns.0.radius

pub cross-z-requires : goal.cross-z-requires
cross-z-requires c = (unit_short c.requires.turns.1, unit_short c.requires.turns.0.toward)

pub loop-init : goal.loop-init
loop-init c = (record { alike = refl }, c.requires.turns.1, told c.cross-z.type_inv c.cross-z.ensures)

pub rotated-next-requires : goal.rotated-next-requires
rotated-next-requires c = (c.requires.turns.0.step, c.loop.invariant.1)

pub stops-requires : goal.stops-requires
stops-requires c = (c.loop.invariant.1, next_unit c.requires.turns.0.step c.loop.invariant.1 c.rotated-next.ensures, c.requires.turns.0.toward, c.loop.invariant.2)

pub past_last-requires : goal.past_last-requires
past_last-requires c = record { turns = (c.requires.turns.0, c.loop.invariant.1); room = count_room (count_as c.loop.invariant.0 (turns_stop _ _ _ _ (rotations_left c.loop-test.true) c.rotated-next.ensures c.stops.ensures c.if-stops.true)) c.requires.room }

pub returns-then-stops : goal.returns-then-stops
returns-then-stops c = count_done (count_as c.loop.invariant.0 (turns_stop _ _ _ _ (rotations_left c.loop-test.true) c.rotated-next.ensures c.stops.ensures c.if-stops.true)) c.past_last.ensures

pub stays-requires : goal.stays-requires
stays-requires c = (c.requires.turns.0, c.loop.invariant.1, next_unit c.requires.turns.0.step c.loop.invariant.1 c.rotated-next.ensures, far_back _ c.requires.turns.0.radius c.least-l.ensures)

pub past-n-requires : goal.past-n-requires
past-n-requires c = step_room c.loop.invariant.0 _ _ _ (turns_next c.loop.counter _ _ _ c.loop-test.true c.rotated-next.ensures c.stops.ensures c.if-stops.false refl) c.stays.ensures c.requires.room

pub cross-z-requires-in-loop : goal.cross-z-requires-in-loop
cross-z-requires-in-loop c = (unit_short (next_unit c.requires.turns.0.step c.loop.invariant.1 c.rotated-next.ensures), unit_short c.requires.turns.0.toward)

pub loop-preserved : goal.loop-preserved
loop-preserved c = (step_count c.loop.invariant.0 _ _ _ (turns_next c.loop.counter _ _ _ c.loop-test.true c.rotated-next.ensures c.stops.ensures c.if-stops.false refl) c.stays.ensures c.past-n.ensures, next_unit c.requires.turns.0.step c.loop.invariant.1 c.rotated-next.ensures, told c.cross-z-in-loop.type_inv c.cross-z-in-loop.ensures)

pub past_last-requires-2 : goal.past_last-requires-2
past_last-requires-2 c = record { turns = (c.requires.turns.0, c.loop.invariant.1); room = count_room (count_as c.loop.invariant.0 (turns_end _ _ _ _ (rotations_none c.loop-test.false))) c.requires.room }

pub returns : goal.returns
returns c = count_done (count_as c.loop.invariant.0 (turns_end _ _ _ _ (rotations_none c.loop-test.false))) c.past_last-2.ensures
