-- `kerb_paths::pieces::first_tour` meets its contract: a tour from the first point, which is within the limits. Assumes nothing.
use Rattle.kerb_paths.proofs.PiecesTold.{begun_told}
use Rattle.kerb_paths.proofs.pieces.first_tour.Goals as goal

pub returns : goal.returns
returns c = begun_told _ _ c.requires c.point.ensures c.new.ensures
