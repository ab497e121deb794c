-- `joins::builder_join::left_turns` meets its contract: the first test settles it, or the second does. Assumes nothing.
use mathlib.Core.Path.{◌∙◌}
use borrow.Author.Rules.{rules}
use Rattle.joins.proofs.CapsAndJoins.{left_reach, along_short, left_yes, left_no}
use Rattle.joins.proofs.builder_join.left_turns.Goals as goal

pub along-requires : goal.along-requires
along-requires c = left_reach c.requires.1

pub along-requires-2 : goal.along-requires-2
along-requires-2 c = left_reach c.requires.0

pub cross-requires : goal.cross-requires
cross-requires c = (along_short (left_reach c.requires.1) c.along.ensures, along_short (left_reach c.requires.0) c.along-2.ensures)

pub returns-then-cross-gt0 : goal.returns-then-cross-gt0
returns-then-cross-gt0 c = c.if-cross-gt0.true ∙ left_yes _ _ _ (search rules) c.along.ensures c.along-2.ensures c.cross.ensures c.if-cross-gt0.true

pub returns-else-cross-gt0 : goal.returns-else-cross-gt0
returns-else-cross-gt0 c = left_no _ _ _ (search rules) c.along.ensures c.along-2.ensures c.cross.ensures c.if-cross-gt0.false _ (search rules) c.bend.ensures
