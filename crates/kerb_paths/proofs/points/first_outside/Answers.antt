-- `kerb_paths::points::first_outside` meets its contract: all before k are within; what is left is passed over one by one. Assumes nothing.
use mathlib.Core.Path.{sym, ◌∙◌}
use native.Mathlib.Omega.{arith}
use Rattle.paths.proofs.PathWalk.{outside_skip, outside_here, outside_end}
use Rattle.kerb_paths.specs.Points.{kerb_path}
use Rattle.kerb_paths.proofs.points.first_outside.Goals as goal

pub loop-k-preserved : goal.loop-k-preserved
loop-k-preserved c = omega (arith, outside_skip (kerb_path c.args.y.radius c.args.points.now) c.loop-k.k (omega arith) c.point.ensures (sym c.allowed.ensures ∙ c.if-not-allowed.false))

pub returns-then-not-allowed : goal.returns-then-not-allowed
returns-then-not-allowed c = omega (arith, outside_here (kerb_path c.args.y.radius c.args.points.now) c.loop-k.k (omega arith) c.point.ensures (sym c.allowed.ensures ∙ c.if-not-allowed.true))

pub returns : goal.returns
returns c = omega (arith, outside_end (kerb_path c.args.y.radius c.args.points.now) c.loop-k.k (omega arith))
