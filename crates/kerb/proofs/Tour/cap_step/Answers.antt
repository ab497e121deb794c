-- `kerb::Tour::cap_step` meets its contract: the caps, and all is done. Assumes nothing.
use Rattle.runs.proofs.Laws.{room_as}
use Rattle.folds.proofs.Laid.{lays_as}
use Rattle.kerb.specs.Tours.{in_phase}
use Rattle.kerb.proofs.TourCases.{caps_emits, caps_next, ready_capped}
use Rattle.kerb.proofs.Tour.cap_step.Goals as goal

pub capping-requires : goal.capping-requires
capping-requires c = record { capped = ready_capped c.args.pen.step _ _ _ _ c.requires.styled.1 c.requires.styled.2; room = room_as (caps_emits _ _ c.args.first _ _ _) c.requires.room }

pub returns : goal.returns
unfolding in_phase
returns c = record { tour = caps_next c.args.pen.step c.args.y _ _ _ _; made = lays_as (caps_emits _ _ c.args.first _ _ _) c.capping.ensures }
