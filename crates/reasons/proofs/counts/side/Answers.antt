-- `reasons::counts::side` meets its contract: an edge over no room, four numbers an edge. Assumes nothing.
use native.Mathlib.Omega.{arith}
use Rattle.turning.proofs.Most.{edge_most}
use Rattle.reasons.proofs.Counted.{few_room, run_count}
use Rattle.reasons.proofs.counts.side.Goals as goal

pub edge-requires : goal.edge-requires
edge-requires c = record { near = c.requires; room = few_room (edge_most c.args.p c.args.q) (omega arith) }

pub returns : goal.returns
returns c = run_count c.edge.ensures
