-- `reaching::walk::reach_within` meets its contract: what is left of the run of thin steps is passed over one by one. Assumes nothing.
use mathlib.Core.Path.{◌≡◌}
use Prim.Native.Nat.{◌+◌}
use lib.ListN.{drop}
use Rattle.locality.specs.Local.{thin_run, reach_of}
use Rattle.paths.specs.Paths.{path_of}
use Rattle.reaching.proofs.walk.reach_within.Given as goal

abbrev pub invariant-loop-i : goal.invariant-loop-i
invariant-loop-i l = reach_of (path_of l.path) l.k ≡ l.i + 1 + thin_run (drop l.i (path_of l.path))
