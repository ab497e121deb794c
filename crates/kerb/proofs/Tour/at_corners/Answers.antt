-- `kerb::Tour::at_corners` meets its contract: it is the definition. Assumes nothing.
use mathlib.Core.Path.{refl}
use Rattle.kerb.specs.Tours.{tour_at_corners}
use Rattle.kerb.proofs.Tour.at_corners.Goals as goal

pub returns : goal.returns
unfolding tour_at_corners
returns c = refl
