-- `half_turn::finest::finest` meets its contract: numbers are equal exactly where their bits are. Assumes nothing.
use borrow.Author.Rules.{rules}
use Rattle.half_turn.proofs.Told.{finest_told}
use Rattle.half_turn.proofs.finest.finest.Goals as goal

pub returns-then-t-eq1073709056 : goal.returns-then-t-eq1073709056
returns-then-t-eq1073709056 c = finest_told _ (search rules) (search rules) c.if-t-eq1073709056.true
