-- `turning::turn::written` meets its contract: whoever writes what is left from here has written all, and what is kept undivided comes to the next
-- direction. Assumes nothing.
use mathlib.Core.Path.{◌≡◌}
use Prim.Native.Nat.{◌-◌}
use Rattle.runs.specs.Runs.{put}
use Rattle.runs.proofs.Onward.{Onward}
use Rattle.plane.specs.Vectors.{Near, cross_of}
use Rattle.plane.specs.Directions.{UnitLong}
use Rattle.plane.specs.Swings.{swing_of}
use Rattle.turning.specs.Edges.{edge_numbers}
use Rattle.turning.specs.Arcs.{turns_of}
use Rattle.turning.proofs.turn.written.Given as goal

abbrev pub invariant-loop : goal.invariant-loop
invariant-loop l =
    Onward put edge_numbers l.initial.out l.initial.n (turns_of 1536 l.r l.initial.dir l.initial.cur) l.out l.n (turns_of (1536 - l.counter) l.r l.dir l.cur) × UnitLong l.dir × Near l.cur × (l.z ≡ cross_of l.dir l.r.toward) × (l.s ≡ swing_of l.r.step l.dir)
