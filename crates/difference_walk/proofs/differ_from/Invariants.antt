-- `difference_walk::differ_from` meets its contract: what is left of the bodies is compared on, vertex by vertex, and the closing body last. Assumes nothing.
use mathlib.Core.Path.{◌≡◌}
use Prim.Native.Nat.{◌≤◌}
use lib.ListN.{length}
use Rattle.paths.specs.Paths.{path_of}
use Rattle.difference_walk.proofs.BodyByBody.{Differed}
use Rattle.difference_walk.proofs.differ_from.Given as goal

abbrev pub invariant-loop-k : goal.invariant-loop-k
invariant-loop-k l = (l.k ≤ l.front.n) × (length l.own ≡ length l.initial.own) × Differed l.t l.front.store.now (path_of l.path) l.initial.d.walk l.initial.differing l.differing l.k l.d
