-- `reaching::walk::settled` meets its contract: one kind a case. Assumes nothing.
use borrow.Author.Rules.{rules}
use Rattle.locality.specs.Local.{settles}
use Rattle.reaching.proofs.Reaches.{settles_some}
use Rattle.reaching.proofs.walk.settled.Goals as goal

pub returns-in-Broken : goal.returns-in-Broken
returns-in-Broken c = settles_some c.in-Broken.is

pub returns-in_default : goal.returns-in_default
unfolding settles
returns-in_default c = search rules
