-- `reasons::counts::left` meets its contract: an arc where the left of a join turns, else an edge, counted. Assumes nothing.
use mathlib.Core.Path.{sym, ap, ◌∙◌}
use native.Mathlib.Omega.{arith}
use lib.ListN.{length}
use Rattle.runs.proofs.Laws.{room_as}
use Rattle.joins.proofs.CapsAndJoins.{contact_near, about_shared_left, left_arc, left_edge}
use Rattle.reasons.proofs.Counted.{few_room, left_few}
use Rattle.reasons.proofs.counts.left.Goals as goal

pub about-requires : goal.about-requires
about-requires c =
    let h = c.requires in record { unit_long = (h.0, h.2.a, h.2.left_a, about_shared_left _ c.requires.3 h.1); room = room_as (left_arc _ _ _ c.left_turns.ensures c.if-left_turns.true) (few_room (left_few c.args.t c.args.prev c.args.next c.requires.3) (omega arith)) }

pub returns-then-left_turns : goal.returns-then-left_turns
returns-then-left_turns c = c.about.ensures ∙ ap length (sym (left_arc _ _ _ c.left_turns.ensures c.if-left_turns.true))

pub side-requires : goal.side-requires
side-requires c = let h = c.requires in (contact_near h.2.a h.2.left_a, contact_near h.1.b h.1.left_b)

pub returns-else-left_turns : goal.returns-else-left_turns
returns-else-left_turns c = c.side.ensures ∙ ap length (sym (left_edge _ _ _ c.left_turns.ensures c.if-left_turns.false))
