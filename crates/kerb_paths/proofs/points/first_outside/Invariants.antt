-- `kerb_paths::points::first_outside` meets its contract: all before k are within; what is left is passed over one by one. Assumes nothing.
use mathlib.Core.Path.{◌≡◌}
use Prim.Native.Nat.{◌+◌}
use lib.ListN.{drop}
use Rattle.contacts.specs.Limits.{first_outside}
use Rattle.kerb_paths.specs.Points.{kerb_path}
use Rattle.kerb_paths.proofs.points.first_outside.Given as goal

abbrev pub invariant-loop-k : goal.invariant-loop-k
invariant-loop-k l = first_outside (kerb_path l.y.radius l.points) ≡ l.k + first_outside (drop l.k (kerb_path l.y.radius l.points))
