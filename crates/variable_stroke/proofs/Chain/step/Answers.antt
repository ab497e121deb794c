-- `variable_stroke::Chain::step` meets its contract: the edges drawn, the section held, the mark set. Assumes nothing.
use Rattle.variable_stroke.proofs.ChainSteps.{marked_is}
use Rattle.variable_stroke.proofs.Chain.step.Goals as goal

pub returns : goal.returns
returns c = record { chain = marked_is _ _; made = c.drawn-at.ensures }
