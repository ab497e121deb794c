-- `heading::shows::show_points` meets its contract: what is left of the table is shown on, point by point. Assumes nothing.
use Rattle.heading.proofs.Shown.{PointsOn}
use Rattle.heading.proofs.shows.show_points.Given as goal

abbrev pub invariant-loop-k : goal.invariant-loop-k
invariant-loop-k l = PointsOn l.s l.n l.initial.out l.out l.k
