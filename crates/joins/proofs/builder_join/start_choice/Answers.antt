-- `joins::builder_join::start_choice` meets its contract: each trend is the definition's. Assumes nothing.
use mathlib.Core.Logic.{inl, inr}
use mathlib.Core.Path.{sym, ap}
use Rattle.joins.specs.Joins.{start_choice}
use Rattle.joins.proofs.builder_join.start_choice.Goals as goal

pub returns-in-Decreasing : goal.returns-in-Decreasing
unfolding start_choice
returns-in-Decreasing c = ap start_choice (sym c.in-Decreasing.is)

pub returns-in-Constant : goal.returns-in-Constant
unfolding start_choice
returns-in-Constant c = elim c.in-Constant.is [ inl e ↦ ap start_choice (sym e) | inr e ↦ ap start_choice (sym e) ]
