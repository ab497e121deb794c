-- `comparing::compare::compare` meets its contract: what is left of the path is compared on, vertex by vertex, by a walk that stays within the limits. Assumes nothing.
use mathlib.Core.Path.{◌≡◌}
use Rattle.outline.specs.Stores.{posts_of}
use Rattle.outline.specs.declared.Form.TheVariants.{Stroke}
use Prim.Native.Nat.{◌≤◌}
use lib.ListN.{length}
use Rattle.paths.specs.Paths.{path_of}
use Rattle.comparing.proofs.Comparisons.{Going}
use Rattle.comparing.proofs.compare.compare.Given as goal

abbrev pub invariant-loop-k : goal.invariant-loop-k
invariant-loop-k l = (l.k ≤ l.n) × (length l.own ≡ length l.initial.own) × Going l.edition l.grade l.s (posts_of (Stroke l.edition) l.n l.s) (path_of l.path) l.base l.k l.c
