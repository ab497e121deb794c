-- `leaps::counting::past_last` meets its contract: the test for one point is the rule's. Assumes nothing.
use native.Mathlib.Omega.{arith}
use Rattle.plane.proofs.Products.{same_told}
use Rattle.leaps.proofs.Distinct.{last_size}
use Rattle.leaps.proofs.counting.past_last.Goals as goal

pub past-requires : goal.past-requires
past-requires c = omega (arith, last_size c.args.r c.args.d c.requires.turns.0.radius c.point_at.ensures (same_told _ _ c.eq.ensures), c.requires.room.fits)

pub returns : goal.returns
returns c = omega (arith, last_size c.args.r c.args.d c.requires.turns.0.radius c.point_at.ensures (same_told _ _ c.eq.ensures), c.past.ensures)
