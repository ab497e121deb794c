-- `reasons::counts::finish` meets its contract: the finish over no room, four numbers an edge. Assumes nothing.
use Rattle.variable_stroke.specs.Chains.{finish_of}
use native.Mathlib.Omega.{arith}
use Rattle.paths.proofs.Most.{finish_most}
use Rattle.reasons.proofs.Counted.{few_room, plain_count}
use Rattle.reasons.proofs.counts.finish.Goals as goal

pub finish-requires-clause-room : goal.finish-requires-clause-room
finish-requires-clause-room c = few_room (finish_most c.plain.result.step c.args.chain c.args.cap) (omega arith)

pub returns : goal.returns
returns c = plain_count (λ t. finish_of t c.args.chain c.args.cap) c.plain.ensures.step c.plain.ensures.folds c.finish.ensures.made
