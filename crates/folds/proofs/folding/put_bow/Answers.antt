-- `folds::folding::put_bow` meets its contract: each number is stored as it is, in its place, or is past the room. Assumes nothing.
use mathlib.Core.Path.{refl}
use Rattle.turning.proofs.Limits.{radius_near}
use Rattle.turning.proofs.Stored.{narrowed}
use Rattle.folds.proofs.Eleven.{counted_whole, bow_stored}
use Rattle.folds.proofs.folding.put_bow.Goals as goal

pub returns : goal.returns
returns c = bow_stored _ refl (counted_whole _ c.requires.0.most) (narrowed (radius_near c.requires.0.radius) c.narrow.ensures) c.put.ensures c.put-2.ensures c.put_direction.ensures c.put_point.ensures c.put-3.ensures c.put_point-2.ensures c.put_point-3.ensures
