-- `kerb::Tour::ends` meets its contract: each phase is the definition's. Assumes nothing.
use mathlib.Core.Logic.{inl, inr}
use mathlib.Core.Path.{sym, ap}
use Rattle.kerb.specs.Tours.{ends_in}
use Rattle.kerb.proofs.Tour.ends.Goals as goal

pub returns-in-Sides : goal.returns-in-Sides
unfolding ends_in
returns-in-Sides c = elim c.in-Sides.is [ inl e ↦ ap (λ p. ends_in p c.args.more) (sym e) | inr e ↦ ap (λ p. ends_in p c.args.more) (sym e) ]

pub returns-in-Caps : goal.returns-in-Caps
unfolding ends_in
returns-in-Caps c = ap (λ p. ends_in p c.args.more) (sym c.in-Caps.is)

pub returns-in-Done : goal.returns-in-Done
unfolding ends_in
returns-in-Done c = ap (λ p. ends_in p c.args.more) (sym c.in-Done.is)
