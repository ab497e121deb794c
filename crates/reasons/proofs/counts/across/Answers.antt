-- `reasons::counts::across` meets its contract: the gap over no room, four numbers an edge. Assumes nothing.
use Rattle.joins.specs.Joins.{gap_of}
use native.Mathlib.Omega.{arith}
use Rattle.reasons.proofs.Counted.{few_room, plain_count, gap_few}
use Rattle.reasons.proofs.counts.across.Goals as goal

pub gap-requires-clause-room : goal.gap-requires-clause-room
gap-requires-clause-room c = few_room (gap_few c.plain.result.step c.args.prev c.args.next) (omega arith)

pub returns : goal.returns
returns c = plain_count (λ t. gap_of t c.args.prev c.args.next) c.plain.ensures.step c.plain.ensures.folds c.gap.ensures
