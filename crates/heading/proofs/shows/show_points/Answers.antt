-- `heading::shows::show_points` meets its contract: what is left of the table is shown on, point by point. Assumes nothing.
use Rattle.heading.proofs.Shown.{points_on, points_done}
use Rattle.heading.proofs.shows.show_points.Goals as goal

pub loop-k-preserved : goal.loop-k-preserved
loop-k-preserved c = points_on c.loop-k.invariant c.loop-k-test.true c.show_point.ensures

pub returns : goal.returns
returns c = points_done c.loop-k.invariant c.loop-k-test.false c.loop-k.auto.k-end
