-- `variable_stroke::builder::break_end` meets its contract: by the order of the radii. Assumes nothing.
use borrow.Author.Rules.{rules}
use Rattle.variable_stroke.proofs.ChainSteps.{end_smaller, end_larger}
use Rattle.variable_stroke.proofs.builder.break_end.Goals as goal

pub returns-then-b-a : goal.returns-then-b-a
returns-then-b-a c = end_smaller _ _ (search rules) (search rules) c.if-b-a.true

pub returns-else-b-a : goal.returns-else-b-a
returns-else-b-a c = end_larger _ _ (search rules) (search rules) c.if-b-a.false
