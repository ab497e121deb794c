-- `kerb_keeping::filling::KerbPlan::fill_tour` meets its contract: what is left of the tour is filled in, piece by piece. Assumes nothing.
use mathlib.Core.Path.{◌≡◌}
use lib.ListN.{length}
use Rattle.kerb.specs.Tours.{left_in}
use Rattle.kerb_paths.specs.Points.{kerb_path, way_of}
use Rattle.kerb_keeping.proofs.KerbFilled.{KerbFilledTo}
use Rattle.kerb_keeping.proofs.filling.KerbPlan.fill_tour.Given as goal

abbrev pub invariant-loop-t : goal.invariant-loop-t
invariant-loop-t l = (length l.own ≡ length l.initial.own) × (length l.s ≡ length l.initial.s) × KerbFilledTo l.t l.self.style (kerb_path l.self.style.radius l.self.points.now) l.initial.s l.initial.f l.s l.f

abbrev pub decreases-loop-t : goal.decreases-loop-t
decreases-loop-t l = left_in l.f.tour.phase (length (way_of l.self.style (kerb_path l.self.style.radius l.self.points.now))) l.f.tour.next
