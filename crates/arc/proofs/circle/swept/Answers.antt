-- `arc::circle::swept` meets its contract: the arc turns from one direction to the other. Assumes nothing.
use mathlib.Core.Path.{◌≡◌, refl}
use Rattle.runs.proofs.Laws.{room_as}
use Rattle.plane.specs.Vectors.{Near}
use Rattle.plane.specs.Directions.{UnitLong}
use Rattle.plane.proofs.Products.{bits}
use Rattle.turning.specs.Arcs.{turns_of, swept_of}
use Rattle.turning.specs.Bounds.{Turns}
use Rattle.turning.proofs.Limits.{radius_back, turns_within}
use Rattle.turning.proofs.Rays.{about_near}
use Rattle.turning.proofs.Cases.{swept_turns}
use Rattle.folds.proofs.Laid.{lays_runs, lays_as}
use Rattle.folds.proofs.Eleven.{lays_may}
use Rattle.turning.proofs.Reach.{turns_reach}
use Rattle.arc.proofs.circle.swept.Goals.{Start}
use Rattle.arc.proofs.circle.swept.Goals as goal

turned : (c : Start) → let a = c.args in swept_of a.pen.step a.c a.radius a.p a.q
    ≡ turns_of 1536 (record { step = a.pen.step; centre = a.c; radius = bits a.radius; to = a.q; toward = a.e }) a.d a.p
turned c = swept_turns _ _ _ _ _ (radius_back c.requires.unit_long.2) refl refl c.requires.unit_long_2.2 c.requires.unit_long_2.3

-- what it keeps while it turns, within the limits, and room for its edges
kept : (c : Start) → let a = c.args in Turns (record { step = a.pen.step; centre = a.c; radius = bits a.radius; to = a.q; toward = a.e }) × UnitLong a.d × Near a.p
kept c =
    let h = c.requires.unit_long in
    let d = c.requires.unit_long_2 in
    (turns_within h.0 h.1 h.2 (about_near h.4 h.1) d.1, d.0, about_near h.3 h.1)

pub fold-requires : goal.fold-requires
fold-requires c = record { turns = kept (goal.at.fold-requires c).Start; room = room_as (turned (goal.at.fold-requires c).Start) c.requires.room }

pub returns-then-pen : goal.returns-then-pen
returns-then-pen c = lays_as (turned (goal.at.returns-then-pen c).Start) (lays_may c.if-pen.true c.fold.ensures)

pub turns-requires : goal.turns-requires
turns-requires c =
    let h = kept (goal.at.turns-requires c).Start in record { turns = h.0; unit_long = (h.1, h.2); room = room_as (turned (goal.at.turns-requires c).Start) c.requires.room }

pub returns-else-pen : goal.returns-else-pen
returns-else-pen c =
    let h = kept (goal.at.returns-else-pen c).Start in
    lays_as (turned (goal.at.returns-else-pen c).Start) (lays_runs (turns_reach 1536 _ _ _ h.0 h.1 h.2) c.turns.ensures)
