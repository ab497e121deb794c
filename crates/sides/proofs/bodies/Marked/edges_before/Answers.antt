-- `sides::bodies::Marked::edges_before` meets its contract: the counts are added up one by one. Assumes nothing.
use mathlib.Core.Path.{refl, ap, ◌∙◌}
use native.Mathlib.Nat.{le_antisymm}
use native.Mathlib.Omega.{arith}
use Rattle.outline.specs.Stores.{edges_before}
use Rattle.sides.proofs.Answers.{sum_inside, edges_next}
use Rattle.sides.proofs.bodies.Marked.edges_before.Goals as goal

pub loop-k-init : goal.loop-k-init
unfolding edges_before
loop-k-init c = refl

pub overflow_add-sum : goal.overflow_add-sum
overflow_add-sum c = omega (arith, sum_inside c.args.self.now.inside c.loop-k.k (omega arith))

pub loop-k-preserved : goal.loop-k-preserved
loop-k-preserved c = edges_next _ c.loop-k.k c.loop-k.invariant c.edges_in-sum.ensures

pub returns : goal.returns
returns c = c.loop-k.invariant ∙ ap (edges_before _) (le_antisymm c.loop-k.auto.k-end c.loop-k-test.false)
