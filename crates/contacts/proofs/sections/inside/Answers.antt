-- `contacts::sections::inside` meets its contract: the inward cross product and its sign are the rule's, and a radius is not negative.
-- Assumes nothing.
use mathlib.Core.Path.{◌≡◌, ◌∙◌}
use native.Mathlib.Omega.{arith}
use lib.IntN.{pos, ◌*ℤ◌}
use lib.Signed.{le_z}
use mir.Syntax.{w64}
use mir.Val.{SFits}
use Rattle.number.specs.Root.{root_up_of}
use Rattle.plane.specs.Vectors.{Short, square_of}
use Rattle.plane.proofs.Products.{bits, square_most}
use Rattle.contacts.specs.Covering.{inside_of}
use Rattle.contacts.proofs.Steps.{place_near}
use Rattle.contacts.proofs.Covers.{way_short, cross_back, not_below, below, inside_as, inside_out, inside_tells}
use Rattle.contacts.proofs.sections.inside.Goals.{After-from_to-v, After-inward-z}
use Rattle.contacts.proofs.sections.inside.Goals as goal

pub from_to-requires : goal.from_to-requires
from_to-requires c = (c.requires.1, place_near _ c.centre.ensures c.requires.0)

-- the side
way : (c : After-from_to-v) → Short c.from_to-v.result
way c = way_short c.from_to-v.ensures c.requires.1 c.requires.2

pub cross-requires : goal.cross-requires
cross-requires c = (way (goal.at.cross-requires c).After-from_to-v, way_short c.from_to.ensures c.requires.1 (place_near _ c.centre.ensures c.requires.0))

pub inward-z-requires : goal.inward-z-requires
inward-z-requires c = let k = cross-requires c.before in cross_back c.cross.ensures k.0 k.1

asked : (c : After-inward-z) →
    let s = c.args in
    inside_of s.turn s.b s.p s.q ≡ le_z (s.b.radius *ℤ pos (root_up_of (square_of c.from_to-v.result))) c.inward-z.result
asked c = inside_as _ _ _ _ c.ranges.turn (record { sfits = c.cross.type_inv }) c.from_to-v.ensures c.centre.ensures c.from_to.ensures c.cross.ensures c.inward-z.ensures

fits : (c : After-inward-z) → SFits w64 c.inward-z.result
fits c = record { sfits = c.inward-z.type_inv }

pub square-requires : goal.square-requires
square-requires c = way (goal.at.square-requires c).After-from_to-v

pub times_root_up_at_most-requires : goal.times_root_up_at_most-requires
times_root_up_at_most-requires c = omega (arith, c.square.ensures, square_most (way (goal.at.times_root_up_at_most-requires c).After-from_to-v))

pub returns-then-z-ge0 : goal.returns-then-z-ge0
returns-then-z-ge0 c =
    inside_tells _ _ _ c.requires.0.radius (fits (goal.at.returns-then-z-ge0 c).After-inward-z) (asked (goal.at.returns-then-z-ge0 c).After-inward-z) (not_below (bits c.inward-z.result) c.if-z-ge0.true) (rw c.square.ensures at c.times_root_up_at_most.ensures)

pub returns-else-z-ge0 : goal.returns-else-z-ge0
returns-else-z-ge0 c = c.if-z-ge0.false ∙ inside_out _ _ _ c.requires.0.radius (fits (goal.at.returns-else-z-ge0 c).After-inward-z) (asked (goal.at.returns-else-z-ge0 c).After-inward-z) (below (bits c.inward-z.result) c.if-z-ge0.false)
