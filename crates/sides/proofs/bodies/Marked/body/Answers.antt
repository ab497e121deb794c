-- `sides::bodies::Marked::body` meets its contract: above n there is none, and a body begins past the bodies before it. Assumes nothing.
use native.Mathlib.Omega.{arith}
use Rattle.sides.proofs.Answers.{sum_inside, table_inside, body-none, body_starts, body_some}
use Rattle.sides.proofs.bodies.Marked.body.Goals as goal

pub returns-then-self-i : goal.returns-then-self-i
returns-then-self-i c = body-none c.args.self.now.inside _ c.if-self-i.true

pub front-base-requires : goal.front-base-requires
front-base-requires c = omega (arith, table_inside c.args.self.now.inside c.args.self.now.of_edition)

pub overflow_mul-offset : goal.overflow_mul-offset
overflow_mul-offset c = omega (arith, sum_inside c.args.self.now.inside c.args.i (omega arith))

pub overflow_add-offset : goal.overflow_add-offset
overflow_add-offset c = omega (arith, body_starts c.args.self.now.inside c.args.i (omega arith) c.args.self.now.of_edition c.front-base.ensures c.edges_before-before.ensures)

pub returns : goal.returns
returns c = body_some c.args.self.now.inside _ (omega arith) c.args.self.now.of_edition c.front-base.ensures c.edges_before-before.ensures c.edges_in-edges.ensures
