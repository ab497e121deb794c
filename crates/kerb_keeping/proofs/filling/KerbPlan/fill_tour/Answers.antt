-- `kerb_keeping::filling::KerbPlan::fill_tour` meets its contract: what is left of the tour is filled in, piece by piece. Assumes nothing.
use mathlib.Core.Path.{refl, sym, ◌∙◌}
use native.Mathlib.Omega.{arith}
use Rattle.kerb_paths.specs.Points.{kerb_path}
use Rattle.kerb_keeping.proofs.KerbFilled.{fill_begins, fill_on, fill_ends}
use Rattle.kerb_keeping.proofs.filling.KerbPlan.fill_tour.Goals as goal

pub loop-t-init : goal.loop-t-init
loop-t-init c = (refl, refl, fill_begins c.args.t c.args.self.now.style (kerb_path c.args.self.now.style.radius c.args.self.now.points.now) c.requires.lent.3 c.requires.room.0 c.requires.room.1)

pub fill_piece-f-requires : goal.fill_piece-f-requires
fill_piece-f-requires c = record { lent = (c.requires.lent.0, c.requires.lent.1, omega (arith, c.requires.lent.2, c.loop-t.invariant.0), c.loop-t.invariant.2.touring); room = ((sym c.done.ensures ∙ c.loop-t-test.true), c.loop-t.invariant.2.room) }

pub loop-t-smaller : goal.loop-t-smaller
loop-t-smaller c = c.fill_piece-f.ensures.fewer

pub loop-t-preserved : goal.loop-t-preserved
loop-t-preserved c = (omega (arith, c.loop-t.invariant.0), omega (arith, c.loop-t.invariant.1), fill_on c.args.t c.args.self.now.style (kerb_path c.args.self.now.style.radius c.args.self.now.points.now) c.loop-t.invariant.2 (sym c.done.ensures ∙ c.loop-t-test.true) c.fill_piece-f.ensures)

pub shape_of-own : goal.shape_of-own
shape_of-own c = omega (arith, c.loop-t.invariant.0)

pub shape_of-s : goal.shape_of-s
shape_of-s c = omega (arith, c.loop-t.invariant.1)

pub returns : goal.returns
returns c = fill_ends c.args.t c.args.self.now.style (kerb_path c.args.self.now.style.radius c.args.self.now.points.now) c.loop-t.invariant.2 (sym c.done.ensures ∙ c.loop-t-test.false)
