-- `contacts::math::centre` meets its contract: the fields come back from their bits. Assumes nothing.
use borrow.Author.Rules.{rules}
use Rattle.contacts.proofs.Steps.{centre_back}
use Rattle.contacts.proofs.math.centre.Goals as goal

pub returns : goal.returns
returns c = centre_back _ (search rules) (search rules)
