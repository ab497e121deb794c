-- `kerb::corners::sides` meets its contract: its two edges, the left one back. Assumes nothing.
use Rattle.kerb.specs.Tours.{sides_of}
use Rattle.kerb.proofs.CornerCases.{near_left_a, near_left_b, near_right_a, near_right_b}
use Rattle.kerb.proofs.corners.sides.Goals as goal

pub two-requires : goal.two-requires
unfolding sides_of
two-requires c = record { near = (near_left_b c.requires.clear, near_left_a c.requires.clear, near_right_a c.requires.clear, near_right_b c.requires.clear); room = c.requires.room }

pub returns : goal.returns
unfolding sides_of
returns c = c.two.ensures
