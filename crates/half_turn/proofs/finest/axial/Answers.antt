-- `half_turn::finest::axial` meets its contract: numbers are equal exactly where their bits are. Assumes nothing.
use borrow.Author.Rules.{rules}
use Rattle.half_turn.proofs.Told.{axial_east, axial_west}
use Rattle.half_turn.proofs.finest.axial.Goals as goal

pub returns-then-d-eq1073741824 : goal.returns-then-d-eq1073741824
returns-then-d-eq1073741824 c = axial_east _ (search rules) (search rules) c.if-d-eq0.true c.if-d-eq1073741824.true

pub returns-else-d-eq1073741824 : goal.returns-else-d-eq1073741824
returns-else-d-eq1073741824 c = axial_west _ (search rules) (search rules) c.if-d-eq0.true
