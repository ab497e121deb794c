-- `run_arcs::answer::arc` is safe: an arc has few edges. Assumes nothing.
use Rattle.std.proofs.Common.{arith}
use Rattle.turning.proofs.Most.{arc_most_lem}
use Rattle.contacts.proofs.Steps.{place_near}
use Rattle.run_arcs.proofs.Guards.{centre_told, few_room}
use Rattle.run_arcs.proofs.answer.arc.Goals as goal

pub point-requires : goal.point-requires
point-requires c = place_near _ c.centre-c.ensures c.in_ok-vertex.ensures

pub point-requires-2 : goal.point-requires-2
point-requires-2 c = place_near _ c.centre-c.ensures c.in_ok-vertex.ensures

pub arc-count-requires-clause-unit_long : goal.arc-count-requires-clause-unit_long
arc-count-requires-clause-unit_long c =
    (c.in_ok-pen.ensures, centre_told c.centre-c.ensures c.in_ok-vertex.ensures, c.in_ok-p.ensures, c.in_ok-q.ensures)

pub arc-count-requires-clause-room : goal.arc-count-requires-clause-room
arc-count-requires-clause-room c = few_room (omega arith) (arc_most_lem _ _ _ _ _ _)
