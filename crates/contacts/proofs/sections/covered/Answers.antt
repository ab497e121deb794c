-- `contacts::sections::covered` meets its contract: the case of the section held, then the larger radius, then the section. Assumes nothing.
use mathlib.Core.Path.{◌∙◌}
use Rattle.contacts.proofs.Covers.{held_around, covered_nothing, covered_not, covered_as}
use Rattle.contacts.proofs.sections.covered.Goals as goal

pub covers_circle-requires : goal.covers_circle-requires
covers_circle-requires c =
    (held_around _ c.in-Some.is c.requires.0, c.requires.1)

pub returns-in-None : goal.returns-in-None
returns-in-None c = covered_nothing _ _ c.in-None.is

pub returns-then-b-larger : goal.returns-then-b-larger
returns-then-b-larger c =
    covered_as _ _ c.in-Some.is c.requires.1
    c.larger.ensures (record { sfits = c.larger.type_inv }) c.if-b-larger.true c.covers_circle.ensures

pub returns-else-b-larger : goal.returns-else-b-larger
returns-else-b-larger c =
    c.if-b-larger.false ∙ covered_not _ _ c.in-Some.is c.requires.1
    c.larger.ensures (record { sfits = c.larger.type_inv }) c.if-b-larger.false
