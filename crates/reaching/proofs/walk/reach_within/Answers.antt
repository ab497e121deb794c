-- `reaching::walk::reach_within` meets its contract: what is left of the run of thin steps is passed over one by one. Assumes nothing.
use mathlib.Core.Path.{sym, ◌∙◌}
use native.Mathlib.Omega.{arith}
use Rattle.paths.specs.Paths.{path_of}
use Rattle.paths.proofs.PathWalk.{path_count}
use Rattle.reaching.proofs.Reaches.{thin_none, thin_more, reach_start}
use Rattle.reaching.proofs.walk.reach_within.Goals as goal

pub overflow_sub-i-end : goal.overflow_sub-i-end
overflow_sub-i-end c = omega (arith, path_count c.args.path.now)

pub overflow_step-i : goal.overflow_step-i
overflow_step-i c = record { fits = omega (arith, path_count c.args.path.now) }

pub loop-i-init : goal.loop-i-init
loop-i-init c = reach_start (path_of c.args.path.now) c.args.k

pub settled_at-requires : goal.settled_at-requires
settled_at-requires c = (omega (arith, path_count c.args.path.now), c.requires.1)

pub returns-then-settled_at : goal.returns-then-settled_at
returns-then-settled_at c = (omega (arith, path_count c.args.path.now, thin_none (path_of c.args.path.now) c.loop-i.i (omega (arith, path_count c.args.path.now)) (sym c.settled_at.ensures ∙ c.if-settled_at.true)), omega (arith, path_count c.args.path.now))

pub loop-i-preserved : goal.loop-i-preserved
loop-i-preserved c = omega (arith, thin_more (path_of c.args.path.now) c.loop-i.i (omega (arith, path_count c.args.path.now)) (sym c.settled_at.ensures ∙ c.if-settled_at.false))

pub returns : goal.returns
returns c = omega (arith, path_count c.args.path.now)
