-- `run_arcs::numbers::pen_of` meets its contract: the grade was tested, so there is a step of it. Assumes nothing.
use Rattle.plane.proofs.Directions.{step_unit}
use Rattle.run_arcs.proofs.numbers.pen_of.Goals as goal

pub returns : goal.returns
returns c = step_unit _ c.step-step.ensures
