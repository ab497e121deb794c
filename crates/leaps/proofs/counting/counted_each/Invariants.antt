-- `leaps::counting::counted_each` meets its contract: what is still to come is counted on from where the loop has come to. Assumes nothing.
use mathlib.Core.Path.{◌≡◌}
use Prim.Native.Nat.{◌-◌}
use Rattle.plane.specs.Vectors.{cross_of}
use Rattle.plane.specs.Directions.{UnitLong}
use Rattle.turning.specs.Arcs.{turns_of}
use Rattle.leaps.specs.Counts.{place_of}
use Rattle.leaps.proofs.Distinct.{Counts}
use Rattle.leaps.proofs.counting.counted_each.Given as goal

abbrev pub invariant-loop : goal.invariant-loop
invariant-loop l =
    Counts l.n (turns_of (1536 - l.counter) l.r l.dir (place_of l.r l.dir)) l.initial.n (turns_of 1535 l.r l.initial.dir (place_of l.r l.initial.dir)) × UnitLong l.dir × (l.z ≡ cross_of l.dir l.r.toward)
