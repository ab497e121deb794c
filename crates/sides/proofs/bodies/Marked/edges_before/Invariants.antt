-- `sides::bodies::Marked::edges_before` meets its contract: the counts are added up one by one. Assumes nothing.
use mathlib.Core.Path.{◌≡◌}
use Rattle.outline.specs.Stores.{edges_before}
use Rattle.sides.proofs.bodies.Marked.edges_before.Given as goal

abbrev pub invariant-loop-k : goal.invariant-loop-k
invariant-loop-k l = l.sum ≡ edges_before l.self.bytes.now l.k
