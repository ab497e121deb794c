-- `kerb::Tour::new` meets its contract: it is the definition. Assumes nothing.
use mathlib.Core.Path.{refl}
use Rattle.kerb.specs.Tours.{tour_from}
use Rattle.kerb.proofs.Tour.new.Goals as goal

pub returns : goal.returns
unfolding tour_from
returns c = refl
