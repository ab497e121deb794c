-- `kerb::Tour::step` meets its contract: by the phase. Assumes nothing.
use Rattle.folds.proofs.Laid.{lays_as, lays_none}
use Rattle.kerb.proofs.TourCases.{done_emits, done_next}
use Rattle.kerb.proofs.Tour.step.Goals as goal

pub returns-in-Done : goal.returns-in-Done
returns-in-Done c = record { tour = done_next c.args.pen.step c.args.y _ _ _ _ c.in-Done.is; made = lays_as (done_emits _ _ c.args.first _ _ _ c.in-Done.is) lays_none }
