-- `run_numbers::answer::direction` is safe: its tests of the sizes make the vector short and not zero. Assumes nothing.
use Rattle.run_numbers.proofs.Guards.{sizes_short, sizes_above}
use Rattle.run_numbers.proofs.answer.direction.Goals.{After-vector-v}
use Rattle.run_numbers.proofs.answer.direction.Goals as goal

pub measured-requires : goal.measured-requires
measured-requires c =
    let w = c.vector-v.ensures in
    (sizes_short _ w.0 w.1 c.if-x-gt1073741824.false c.if-y-gt1073741824.false, sizes_above _ w.0 w.1 c.if-x-y-eq0.false)

pub direction-way-requires : goal.direction-way-requires
direction-way-requires c = let h = measured-requires (goal.at.direction-way-requires c).After-vector-v in (h.0, h.1, c.measured.ensures)
