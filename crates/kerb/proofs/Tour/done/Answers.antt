-- `kerb::Tour::done` meets its contract: the last phase alone is done. Assumes nothing.
use Rattle.kerb.proofs.TourCases.{done_told}
use Rattle.kerb.proofs.Tour.done.Goals as goal

pub returns : goal.returns
returns c = done_told _ c.eq.ensures
