-- `reaching::walk::reached` meets its contract: the reach where it lies in the path, else the number of vertices. Assumes nothing.
use mathlib.Core.Path.{sym, ◌∙◌}
use Rattle.paths.specs.Paths.{path_of}
use Rattle.paths.proofs.PathWalk.{path_count}
use Rattle.reaching.proofs.Reaches.{told}
use Rattle.reaching.proofs.walk.reached.Goals as goal

pub returns : goal.returns
returns c = c.unwrap_or.ensures ∙ told (path_of c.args.path.now) c.args.k c.reach_within.result (sym (path_count c.args.path.now)) c.reach_within.ensures
