-- `half_turn::along::pair_at` meets its contract: the table's rule at i, and the same by half a turn. Assumes nothing.
use Rattle.half_turn.proofs.Told.{pair_west}
use Rattle.half_turn.proofs.along.pair_at.Goals as goal

pub returns-then-back : goal.returns-then-back
returns-then-back c = pair_west c.requires.0 c.requires.1 c.if-back.true
