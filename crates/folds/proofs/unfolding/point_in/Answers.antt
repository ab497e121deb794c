-- `folds::unfolding::point_in` meets its contract: both numbers are read as they are. Assumes nothing.
use Rattle.folds.proofs.ReadBack.{point_read}
use Rattle.folds.proofs.unfolding.point_in.Goals as goal

pub returns : goal.returns
returns c = point_read _ _ (record { sfits = c.number_at.type_inv }) (record { sfits = c.number_at-2.type_inv }) c.number_at.ensures c.number_at-2.ensures
