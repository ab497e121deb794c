-- `paths::paths::go_on` meets its contract: what is left of the path is drawn on, step by step, by a walk that stays within the limits. Assumes nothing.
use lib.ListN.{drop}
use Rattle.turning.specs.Edges.{edge_numbers}
use Rattle.runs.proofs.Onward.{Onward}
use Rattle.runs.specs.Runs.{put}
use Rattle.variable_stroke.specs.Bounds.{AroundWalk}
use Rattle.paths.specs.Paths.{path_of, bodies_from, joined}
use Rattle.paths.proofs.paths.go_on.Given as goal

abbrev pub invariant-loop-k : goal.invariant-loop-k
invariant-loop-k l =
    AroundWalk l.w × Onward put edge_numbers l.initial.out l.initial.at (joined (bodies_from l.t l.initial.w (drop l.initial.k (path_of l.path)))) l.out l.at (joined (bodies_from l.t l.w (drop l.k (path_of l.path))))
