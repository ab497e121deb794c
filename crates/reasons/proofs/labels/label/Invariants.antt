-- `reasons::labels::label` meets its contract: place after place until none is left. Assumes nothing.
use Prim.Native.Nat.{◌-◌}
use Rattle.runs.proofs.Onward.{Onward}
use Rattle.reasons.specs.Reasons.{places_from}
use Rattle.reasons.specs.Lists.{why_numbers, put_past}
use Rattle.reasons.proofs.labels.label.Given as goal

abbrev pub invariant-loop-place : goal.invariant-loop-place
invariant-loop-place l =
    Onward (put_past l.from) why_numbers l.initial.out l.initial.i (places_from l.reason l.vertex l.initial.place (l.count - l.initial.place)) l.out l.i (places_from l.reason l.vertex l.place (l.count - l.place))
