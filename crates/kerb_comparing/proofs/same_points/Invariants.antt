-- `kerb_comparing::same_points` meets its contract: what is left of the points is compared on, point by point. Assumes nothing.
use Prim.Native.Nat.{◌+◌, ◌*◌, ◌≤◌}
use lib.ListN.{drop}
use Rattle.runs.specs.Runs.{spread, agree}
use Rattle.runs.proofs.Onward.{Onward}
use Rattle.kerb_paths.specs.Points.{kerb_path}
use Rattle.words.specs.Words.{four_bytes}
use Rattle.outline.specs.Outlines.{point_words}
use Rattle.kerb_comparing.proofs.same_points.Given as goal

abbrev pub invariant-loop-k : goal.invariant-loop-k
invariant-loop-k l = (l.k ≤ l.n) × Onward (agree l.s) four_bytes 32 32 (spread point_words (kerb_path l.y.radius l.points)) l.ok (32 + 8 * l.k) (spread point_words (drop l.k (kerb_path l.y.radius l.points)))
