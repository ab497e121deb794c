-- `reasons::counts::step` meets its contract: the step over no room, four numbers an edge. Assumes nothing.
use native.Mathlib.Omega.{arith}
use Rattle.paths.proofs.Most.{emitted_most}
use Rattle.reasons.proofs.Counted.{few_room, run_count}
use Rattle.reasons.proofs.counts.step.Goals as goal

pub step-stepped-requires : goal.step-stepped-requires
step-stepped-requires c = record { unit_long = c.requires; room = few_room (emitted_most c.args.t c.args.walk c.args.b) (omega arith) }

pub returns : goal.returns
returns c = record { walk = c.step-stepped.ensures.walk; count = run_count c.step-stepped.ensures.made }
