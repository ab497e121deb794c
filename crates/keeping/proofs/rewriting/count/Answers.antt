-- `keeping::rewriting::count` meets its contract: the walk over scratch comes to four numbers an edge. Assumes nothing.
use Rattle.plane.proofs.Directions.{step_unit}
use Rattle.replies.proofs.PathChecks.{walk_room, count_of}
use Rattle.keeping.proofs.rewriting.count.Goals as goal

pub walk-requires : goal.walk-requires
walk-requires c = record { n_value = (c.requires.0, c.requires.1.inside, step_unit _ c.step.ensures); room = walk_room _ c.requires.1 c.step.ensures }

pub returns : goal.returns
returns c = count_of _ _ c.step.ensures c.walk.ensures
