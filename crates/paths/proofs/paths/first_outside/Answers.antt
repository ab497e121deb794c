-- `paths::paths::first_outside` meets its contract: all before k are within; what is left of the path is passed over one by one. Assumes nothing.
use mathlib.Core.Path.{sym, ◌∙◌}
use native.Mathlib.Omega.{arith}
use Rattle.paths.specs.Paths.{path_of}
use Rattle.paths.proofs.PathWalk.{outside_skip, outside_here, outside_end}
use Rattle.paths.proofs.paths.first_outside.Goals as goal

pub loop-k-preserved : goal.loop-k-preserved
loop-k-preserved c = omega (arith, outside_skip (path_of c.args.path.now) c.loop-k.k (omega arith) c.vertex.ensures (sym c.allowed.ensures ∙ c.if-not-allowed.false))

pub returns-then-not-allowed : goal.returns-then-not-allowed
returns-then-not-allowed c = omega (arith, outside_here (path_of c.args.path.now) c.loop-k.k (omega arith) c.vertex.ensures (sym c.allowed.ensures ∙ c.if-not-allowed.true))

pub returns : goal.returns
returns c = omega (arith, outside_end (path_of c.args.path.now) c.loop-k.k (omega arith))
