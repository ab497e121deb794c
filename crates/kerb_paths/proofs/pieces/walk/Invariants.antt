-- `kerb_paths::pieces::walk` meets its contract: what is left of the tour is drawn on, piece by piece. Assumes nothing.
use lib.ListN.{length}
use Rattle.runs.specs.Runs.{put}
use Rattle.runs.proofs.Onward.{Onward}
use Rattle.turning.specs.Edges.{edge_numbers}
use Rattle.kerb.specs.Tours.{rest_of, left_in, Touring}
use Rattle.kerb_paths.specs.Points.{kerb_path, first_of, way_of}
use Rattle.kerb_paths.proofs.pieces.walk.Given as goal

abbrev pub invariant-loop-y : goal.invariant-loop-y
invariant-loop-y l =
    Touring l.y (first_of (kerb_path l.y.radius l.points)) (way_of l.y (kerb_path l.y.radius l.points)) l.w
    × Onward put edge_numbers l.initial.out l.initial.at (rest_of l.pen.step l.y (first_of (kerb_path l.y.radius l.points)) (way_of l.y (kerb_path l.y.radius l.points)) l.initial.w) l.out l.at (rest_of l.pen.step l.y (first_of (kerb_path l.y.radius l.points)) (way_of l.y (kerb_path l.y.radius l.points)) l.w)

abbrev pub decreases-loop-y : goal.decreases-loop-y
decreases-loop-y l = left_in l.w.phase (length (way_of l.y (kerb_path l.y.radius l.points))) l.w.next
