-- `kerb_comparing::compare_tour` meets its contract: what is left of the tour is compared on, piece by piece. Assumes nothing.
use mathlib.Core.Path.{sym, ◌∙◌}
use native.Mathlib.Omega.{arith}
use Rattle.kerb_paths.specs.Points.{kerb_path}
use Rattle.kerb_comparing.proofs.KerbComparisons.{kerb_on, kerb_ends}
use Rattle.kerb_comparing.proofs.compare_tour.Goals as goal

pub loop-y-preserved : goal.loop-y-preserved
loop-y-preserved c = (omega (arith, c.loop-y.invariant.0), kerb_on c.args.t c.args.y (kerb_path c.args.y.radius c.args.points.now) _ c.loop-y.invariant.1 (sym c.done.ensures ∙ c.loop-y-test.true) c.piece-c.ensures)

pub returns : goal.returns
returns c = kerb_ends c.args.t c.args.y (kerb_path c.args.y.radius c.args.points.now) _ c.loop-y.invariant.1 (sym c.done.ensures ∙ c.loop-y-test.false)
