-- `variable_stroke::builder::both_butt` meets its contract: one cap is told and then the other. Assumes nothing.
use Rattle.variable_stroke.proofs.ChainSteps.{first_round, first_butt}
use Rattle.variable_stroke.proofs.builder.both_butt.Goals as goal

pub returns-then-eq : goal.returns-then-eq
returns-then-eq c = first_butt _ _ c.eq.ensures c.if-eq.true c.eq-then-eq.ensures

pub returns-else-eq : goal.returns-else-eq
returns-else-eq c = first_round _ _ c.eq.ensures c.if-eq.false
