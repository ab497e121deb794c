-- `reasons::labels::label` meets its contract: place after place until none is left. Assumes nothing.
use Prim.Native.Nat.{◌-◌}
use native.Mathlib.Omega.{arith}
use Rattle.runs.proofs.Laws.{runs_as, runs_none}
use Rattle.runs.proofs.Onward.{onward_step, onward_as, onward_done, onward_pos}
use Rattle.reasons.proofs.Listed.{places_all, places_more, places_done, places_size}
use Rattle.reasons.proofs.labels.label.Goals as goal

pub put_why-i-requires : goal.put_why-i-requires
put_why-i-requires c = omega (arith, c.requires, c.loop-place-test.true, onward_pos c.loop-place.invariant, places_size c.args.reason c.args.vertex 0 (c.args.count - 0), places_size c.args.reason c.args.vertex c.loop-place.place (c.args.count - c.loop-place.place))

pub loop-place-preserved : goal.loop-place-preserved
loop-place-preserved c = onward_step (onward_as (places_more _ _ _ _ c.loop-place-test.true) c.loop-place.invariant) c.put_why-i.ensures

pub returns : goal.returns
returns c = runs_as (places_all _ _ _) (onward_done (onward_as (places_done _ _ _ _ c.loop-place-test.false) c.loop-place.invariant) runs_none)
