-- `reaching::walk::settled_at` meets its contract: both vertices are within the limits. Assumes nothing.
use native.Mathlib.Omega.{arith}
use Rattle.paths.specs.Paths.{path_of}
use Rattle.paths.proofs.PathWalk.{path_count}
use Rattle.reaching.proofs.Reaches.{inside_at}
use Rattle.reaching.proofs.walk.settled_at.Goals as goal

pub overflow_add-i : goal.overflow_add-i
overflow_add-i c = record { fits = omega (arith, path_count c.args.path.now) }

pub kind-requires : goal.kind-requires
kind-requires c = (
  inside_at (path_of c.args.path.now) c.args.i c.requires.1 (omega arith) c.vertex-a.ensures,
  inside_at (path_of c.args.path.now) _ c.requires.1 c.requires.0 c.vertex-b.ensures,
)
