-- `kerb::touring::held` meets its contract: the first stays. Assumes nothing.
use mathlib.Core.Path.{sym, ap}
use Rattle.kerb.specs.Tours.{held_of}
use Rattle.kerb.proofs.touring.held.Goals as goal

pub returns-in-Some : goal.returns-in-Some
unfolding held_of
returns-in-Some c = ap (λ e. held_of e c.args.s) (sym c.in-Some.is)

pub returns-in-None : goal.returns-in-None
unfolding held_of
returns-in-None c = ap (λ e. held_of e c.args.s) (sym c.in-None.is)
