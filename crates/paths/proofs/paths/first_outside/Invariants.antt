-- `paths::paths::first_outside` meets its contract: all before k are within; what is left of the path is passed over one by one. Assumes nothing.
use mathlib.Core.Path.{◌≡◌}
use Prim.Native.Nat.{◌+◌}
use lib.ListN.{drop}
use Rattle.contacts.specs.Limits.{first_outside}
use Rattle.paths.specs.Paths.{path_of}
use Rattle.paths.proofs.paths.first_outside.Given as goal

abbrev pub invariant-loop-k : goal.invariant-loop-k
invariant-loop-k l = first_outside (path_of l.path) ≡ l.k + first_outside (drop l.k (path_of l.path))
