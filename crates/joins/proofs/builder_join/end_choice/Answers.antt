-- `joins::builder_join::end_choice` meets its contract: each trend is the definition's. Assumes nothing.
use mathlib.Core.Logic.{inl, inr}
use mathlib.Core.Path.{sym, ap}
use Rattle.joins.specs.Joins.{end_choice}
use Rattle.joins.proofs.builder_join.end_choice.Goals as goal

pub returns-in-Decreasing : goal.returns-in-Decreasing
unfolding end_choice
returns-in-Decreasing c = elim c.in-Decreasing.is [ inl e ↦ ap end_choice (sym e) | inr e ↦ ap end_choice (sym e) ]

pub returns-in-Increasing : goal.returns-in-Increasing
unfolding end_choice
returns-in-Increasing c = ap end_choice (sym c.in-Increasing.is)
