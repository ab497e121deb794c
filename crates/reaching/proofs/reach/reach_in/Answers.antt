-- `reaching::reach::reach_in` meets its contract: the row of the index, and then the reach. Assumes nothing.
use native.Mathlib.Omega.{arith}
use Rattle.paths.proofs.PathWalk.{path_count}
use Rattle.reaching.proofs.StoreReach.{index_refused, index_passed}
use Rattle.reaching.proofs.reach.reach_in.Goals as goal

pub returns-then-n-index : goal.returns-then-n-index
returns-then-n-index c = index_refused _ _ _ (omega (arith, path_count c.args.path.now))

pub reached-requires : goal.reached-requires
reached-requires c = (omega (arith, path_count c.args.path.now), c.requires)

pub returns : goal.returns
returns c = index_passed _ _ _ (omega (arith, path_count c.args.path.now)) c.reached.ensures
