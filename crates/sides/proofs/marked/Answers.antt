-- `sides::marked` meets its contract: a sheet that passed its rows marks off its bodies. Assumes nothing.
use Rattle.sides.proofs.Answers.{stroke_bodies, stroke_edition}
use Rattle.sides.proofs.marked.Goals as goal

pub invariant_of-result : goal.invariant_of-result
invariant_of-result c = record { inside = stroke_bodies c.requires.0 c.requires.1; of_edition = stroke_edition c.requires.0 c.requires.1 }
