-- `keeping::filling::Plan::fill_from` meets its contract: what is left of table and bodies is filled in, step by step, by a walk that stays within the limits. Assumes nothing.
use mathlib.Core.Path.{◌≡◌}
use lib.ListN.{length}
use Rattle.variable_stroke.specs.Bounds.{AroundWalk}
use Rattle.paths.specs.Paths.{path_of}
use Rattle.keeping.proofs.FilledSteps.{FilledTo}
use Rattle.keeping.proofs.filling.Plan.fill_from.Given as goal

abbrev pub invariant-loop-k : goal.invariant-loop-k
invariant-loop-k l = (length l.own ≡ length l.initial.own) × AroundWalk l.f.walk × FilledTo l.self.edition l.t l.self.posts.now (path_of l.self.path.now) 1 l.initial.s l.initial.f l.k l.s l.f
