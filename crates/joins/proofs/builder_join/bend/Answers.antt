-- `joins::builder_join::bend` meets its contract: the cross product of the two centre lines. Assumes nothing.
use borrow.Author.Rules.{rules}
use Rattle.joins.proofs.CapsAndJoins.{bend_is}
use Rattle.contacts.proofs.Steps.{line_short}
use Rattle.joins.proofs.builder_join.bend.Goals as goal

pub cross-requires : goal.cross-requires
cross-requires c = (line_short _ _ c.line.ensures c.requires.0.a c.requires.0.b, line_short _ _ c.line-2.ensures c.requires.1.a c.requires.1.b)

pub returns : goal.returns
returns c = bend_is _ _ c.line.ensures c.line-2.ensures (search rules) c.cross.ensures
