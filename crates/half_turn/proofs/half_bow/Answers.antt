-- `half_turn::half_bow` meets its contract: the table is lent, and its rule is one test over all of it, which is computed. Assumes nothing.
use mathlib.Core.Path.{refl}
use Rattle.plane.specs.Vectors.{same_number}
use Rattle.plane.specs.Directions.{rotated_of}
use Rattle.half_turn.specs.Pairs.{axis_of, follows_of}
use Rattle.half_turn.proofs.Rotations.{tabled}
use Rattle.half_turn.proofs.half_bow.Goals as goal

pub bow_along-requires : goal.bow_along-requires
unfolding axis_of follows_of rotated_of same_number
bow_along-requires c = record { turns = c.requires; tabled = tabled _ refl refl }
