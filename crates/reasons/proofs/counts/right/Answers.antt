-- `reasons::counts::right` meets its contract: an arc where the right of a join turns, else an edge, counted. Assumes nothing.
use mathlib.Core.Path.{sym, ap, ◌∙◌}
use native.Mathlib.Omega.{arith}
use lib.ListN.{length}
use Rattle.runs.proofs.Laws.{room_as}
use Rattle.joins.proofs.CapsAndJoins.{contact_near, about_shared_right, right_arc, right_edge}
use Rattle.reasons.proofs.Counted.{few_room, right_few}
use Rattle.reasons.proofs.counts.right.Goals as goal

pub about-requires : goal.about-requires
about-requires c =
    let h = c.requires in record { unit_long = (h.0, h.1.b, h.1.right_b, about_shared_right _ c.requires.3 h.2); room = room_as (right_arc _ _ _ c.right_turns.ensures c.if-right_turns.true) (few_room (right_few c.args.t c.args.prev c.args.next c.requires.3) (omega arith)) }

pub returns-then-right_turns : goal.returns-then-right_turns
returns-then-right_turns c = c.about.ensures ∙ ap length (sym (right_arc _ _ _ c.right_turns.ensures c.if-right_turns.true))

pub side-requires : goal.side-requires
side-requires c = let h = c.requires in (contact_near h.1.b h.1.right_b, contact_near h.2.a h.2.right_a)

pub returns-else-right_turns : goal.returns-else-right_turns
returns-else-right_turns c = c.side.ensures ∙ ap length (sym (right_edge _ _ _ c.right_turns.ensures c.if-right_turns.false))
