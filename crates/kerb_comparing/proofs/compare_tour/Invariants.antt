-- `kerb_comparing::compare_tour` meets its contract: what is left of the tour is compared on, piece by piece. Assumes nothing.
use mathlib.Core.Path.{◌≡◌}
use lib.ListN.{length}
use Rattle.kerb.specs.Tours.{left_in}
use Rattle.kerb_paths.specs.Points.{kerb_path, way_of}
use Rattle.kerb_comparing.proofs.KerbComparisons.{KerbGoing}
use Rattle.kerb_comparing.proofs.compare_tour.Given as goal

abbrev pub invariant-loop-y : goal.invariant-loop-y
invariant-loop-y l = (length l.own ≡ length l.initial.own) × KerbGoing l.t l.y (kerb_path l.y.radius l.points) l.s l.initial.c l.c

abbrev pub decreases-loop-y : goal.decreases-loop-y
decreases-loop-y l = left_in l.c.tour.phase (length (way_of l.y (kerb_path l.y.radius l.points))) l.c.tour.next
