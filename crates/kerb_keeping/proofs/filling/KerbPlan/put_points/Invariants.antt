-- `kerb_keeping::filling::KerbPlan::put_points` meets its contract: what is left of the points is put on, point by point. Assumes nothing.
use mathlib.Core.Path.{◌≡◌}
use Prim.Native.Nat.{◌+◌, ◌*◌}
use lib.ListN.{drop}
use Rattle.runs.specs.Runs.{spread, put}
use Rattle.runs.proofs.Onward.{Onward}
use Rattle.kerb_paths.specs.Points.{kerb_path}
use Rattle.words.specs.Words.{four_bytes}
use Rattle.outline.specs.Outlines.{point_words}
use Rattle.kerb_keeping.proofs.filling.KerbPlan.put_points.Given as goal

abbrev pub invariant-loop-k : goal.invariant-loop-k
invariant-loop-k l = (l.at ≡ 32 + 8 * l.k) × Onward put four_bytes l.initial.s 32 (spread point_words (kerb_path l.self.style.radius l.self.points.now)) l.s l.at (spread point_words (drop l.k (kerb_path l.self.style.radius l.self.points.now)))
