-- `heading::shows::show_vertices` meets its contract: what is left of the table is shown on, entry by entry. Assumes nothing.
use native.Mathlib.Omega.{arith}
use Rattle.runs.proofs.Laws.{runs_none, runs_to}
use Rattle.runs.proofs.Onward.{onward_step, onward_as, onward_done}
use Rattle.outline.specs.declared.Form.TheVariants.{Stroke}
use Rattle.heading.proofs.Shown.{shown_next, shown_end}
use Rattle.heading.proofs.shows.show_vertices.Goals as goal

pub loop-k-preserved : goal.loop-k-preserved
loop-k-preserved c = onward_step (onward_as (shown_next (Stroke c.args.edition) c.args.s.now c.args.n c.loop-k.k c.loop-k-test.true) c.loop-k.invariant) (runs_to (omega arith) c.show_vertex.ensures)

pub returns : goal.returns
returns c = onward_done (onward_as (shown_end (Stroke c.args.edition) c.args.s.now c.args.n c.loop-k.k c.loop-k-test.false) c.loop-k.invariant) (runs_to (omega arith) runs_none)
