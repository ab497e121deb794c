-- `contacts::math::larger` meets its contract: the library's larger number is the rule's. Assumes nothing.
use borrow.Author.Rules.{rules}
use Rattle.contacts.proofs.Steps.{larger_is}
use Rattle.contacts.proofs.math.larger.Goals as goal

pub returns : goal.returns
returns c = larger_is _ _ (search rules) (search rules) (record { sfits = c.max.type_inv }) c.max.ensures.value
