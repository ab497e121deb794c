-- `drawing::copy` meets its contract: number by number, so many of the row are put. Assumes nothing.
use mathlib.Core.Path.{refl, ◌∙◌}
use native.Mathlib.Omega.{arith}
use borrow.Author.Rules.{rules}
use lib.IntN.{pos}
use lib.ListN.{length-set}
use mir.Syntax.{w32}
use mir.Facts.{to_z-of_z}
use Rattle.runs.specs.Runs.{over}
use Rattle.runs.proofs.Written.{over_more}
use Rattle.drawing.proofs.copy.Goals as goal

pub loop-j-init : goal.loop-j-init
unfolding over
loop-j-init c = (refl, refl)

pub loop-j-preserved : goal.loop-j-preserved
loop-j-preserved c =
    let i = c.loop-j.invariant in
    (length-set c.loop-j.out c.loop-j.j _ ∙ i.0, over_more c.args.out.now c.args.from.now c.loop-j.j (pos 0) (omega (arith, c.requires.0, c.loop-j-test.true)) (to_z-of_z {w = w32} (record { sfits = search rules })) i.1)
