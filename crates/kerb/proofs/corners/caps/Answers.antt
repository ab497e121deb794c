-- `kerb::corners::caps` meets its contract: one cap after the other. Assumes nothing.
use Rattle.kerb.specs.Tours.{caps_both}
use Rattle.kerb.proofs.CornerCases.{near_left_a, near_left_b, near_right_a, near_right_b}
use Rattle.kerb.proofs.corners.caps.Goals as goal

pub two-requires : goal.two-requires
unfolding caps_both
two-requires c = record { near = (near_left_a c.requires.clear.0, near_right_a c.requires.clear.0, near_right_b c.requires.clear.1, near_left_b c.requires.clear.1); room = c.requires.room }

pub returns : goal.returns
unfolding caps_both
returns c = c.two.ensures
