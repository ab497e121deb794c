-- `sides::beside` meets its contract: the part that was located, or an empty one. Assumes nothing.
use mathlib.Core.Path.{ap}
use native.Mathlib.Omega.{arith}
use lib.ListN.{length}
use Rattle.sides.proofs.Answers.{part_inside, part_fits, hands_body, hands_nothing}
use Rattle.sides.proofs.beside.Goals as goal

pub overflow_mul-end : goal.overflow_mul-end
overflow_mul-end c = omega (arith, part_fits c.locate.ensures c.in-Ok.is c.well_formed.0.0 c.well_formed.1.0.0)

pub overflow_add-end : goal.overflow_add-end
overflow_add-end c = omega (arith, part_fits c.locate.ensures c.in-Ok.is c.well_formed.0.0 c.well_formed.1.0.0)

pub slice_bounds-result-end : goal.slice_bounds-result-end
slice_bounds-result-end c = omega (arith, part_inside c.locate.ensures c.in-Ok.is, ap length c.chosen-chosen.ensures)

pub returns-in-Ok : goal.returns-in-Ok
returns-in-Ok c = hands_body c.locate.ensures c.in-Ok.is c.chosen-chosen.ensures

pub returns-in-Err : goal.returns-in-Err
returns-in-Err c = hands_nothing c.locate.ensures c.in-Err.is c.from-code.ensures
