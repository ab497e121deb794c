-- `run_arcs::answer::circle` is safe: a circle has few edges. Assumes nothing.
use Rattle.std.proofs.Common.{arith}
use Rattle.turning.proofs.Limits.{radius_told_lem}
use Rattle.turning.proofs.Most.{circle_most}
use Rattle.run_arcs.proofs.Guards.{centre_told, few_room}
use Rattle.run_arcs.proofs.answer.circle.Goals as goal

pub circle-count-requires-clause-unit_long : goal.circle-count-requires-clause-unit_long
circle-count-requires-clause-unit_long c =
    let h = c.in_ok-v.ensures in (c.in_ok-pen.ensures, centre_told c.centre.ensures h, radius_told_lem h.radius)

pub circle-count-requires-clause-room : goal.circle-count-requires-clause-room
circle-count-requires-clause-room c = few_room (omega arith) (circle_most _ _ _)
