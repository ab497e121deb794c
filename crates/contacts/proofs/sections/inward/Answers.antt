-- `contacts::sections::inward` meets its contract: a cross product's opposite fits. Assumes nothing.
use Rattle.contacts.proofs.Covers.{inward_minus, inward_same}
use Rattle.contacts.proofs.sections.inward.Goals as goal

pub returns-then-turn-lt0 : goal.returns-then-turn-lt0
returns-then-turn-lt0 c = inward_minus _ _ c.ranges.turn c.requires c.if-turn-lt0.true

pub returns-else-turn-lt0 : goal.returns-else-turn-lt0
returns-else-turn-lt0 c = inward_same _ _ c.ranges.turn c.requires c.if-turn-lt0.false
