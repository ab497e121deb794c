-- `run_arcs::answer::join` is safe: a join has few edges. Assumes nothing.
use Rattle.std.proofs.Common.{arith}
use Rattle.paths.proofs.Most.{join_most}
use Rattle.run_arcs.proofs.Guards.{few_room}
use Rattle.run_arcs.proofs.answer.join.Goals as goal

pub join-count-requires-clause-room : goal.join-count-requires-clause-room
join-count-requires-clause-room c = few_room (omega arith) (join_most _ _ _)
