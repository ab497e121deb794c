-- `turning::edges::edge` meets its contract: the test for one point is the rule's. Assumes nothing.
use mathlib.Core.Path.{sym, ◌∙◌}
use Rattle.plane.proofs.Products.{same_told}
use Rattle.runs.proofs.Laws.{runs_as, runs_none, room_as}
use Rattle.turning.proofs.Stored.{edge_none, edge_some}
use Rattle.turning.proofs.edges.edge.Goals as goal

pub returns-then-eq : goal.returns-then-eq
returns-then-eq c = runs_as (edge_none _ _ (sym (same_told _ _ c.eq.ensures) ∙ c.if-eq.true)) runs_none

pub emit-requires : goal.emit-requires
emit-requires c =
    let h = c.requires in record { reach = record { a = h.near.0; b = h.near.1 }; room = room_as (edge_some _ _ (sym (same_told _ _ c.eq.ensures) ∙ c.if-eq.false)) h.room }

pub returns-else-eq : goal.returns-else-eq
returns-else-eq c = runs_as (edge_some _ _ (sym (same_told _ _ c.eq.ensures) ∙ c.if-eq.false)) c.emit.ensures
