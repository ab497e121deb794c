-- `variable_stroke::builder::break_start` meets its contract: by the order of the radii. Assumes nothing.
use borrow.Author.Rules.{rules}
use Rattle.variable_stroke.proofs.ChainSteps.{start_smaller, start_larger}
use Rattle.variable_stroke.proofs.builder.break_start.Goals as goal

pub returns-then-b-a : goal.returns-then-b-a
returns-then-b-a c = start_smaller _ _ (search rules) (search rules) c.if-b-a.true

pub returns-else-b-a : goal.returns-else-b-a
returns-else-b-a c = start_larger _ _ (search rules) (search rules) c.if-b-a.false
