-- `reasons::counts::start` meets its contract: the start cap over no room, four numbers an edge. Assumes nothing.
use Rattle.joins.specs.Joins.{start_cap}
use native.Mathlib.Omega.{arith}
use Rattle.paths.proofs.Most.{start_most}
use Rattle.reasons.proofs.Counted.{few_room, plain_count}
use Rattle.reasons.proofs.counts.start.Goals as goal

pub start_cap-requires-clause-room : goal.start_cap-requires-clause-room
start_cap-requires-clause-room c = few_room (start_most c.plain.result.step c.args.s c.args.cap) (omega arith)

pub returns : goal.returns
returns c = plain_count (λ t. start_cap t c.args.s c.args.cap) c.plain.ensures.step c.plain.ensures.folds c.start_cap.ensures
