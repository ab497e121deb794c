-- `drawing::copy` meets its contract: number by number, so many of the row are put. Assumes nothing.
use mathlib.Core.Path.{◌≡◌}
use lib.ListN.{length, take}
use Rattle.runs.specs.Runs.{over, put}
use Rattle.drawing.proofs.copy.Given as goal

abbrev pub invariant-loop-j : goal.invariant-loop-j
invariant-loop-j l = (length l.out ≡ length l.initial.out) × (l.out ≡ over put l.initial.out 0 (take l.j l.from))
