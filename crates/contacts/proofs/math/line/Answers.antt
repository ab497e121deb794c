-- `contacts::math::line` meets its contract: the way between two centres within the limits. Assumes nothing.
use Rattle.contacts.specs.Contacts.{line_of}
use Rattle.contacts.proofs.Steps.{place_near}
use Rattle.contacts.proofs.math.line.Goals as goal

pub from_to-requires : goal.from_to-requires
from_to-requires c = (place_near _ c.centre.ensures c.requires.0, place_near _ c.centre-2.ensures c.requires.1)

pub returns : goal.returns
unfolding line_of
returns c = rw (c.from_to.ensures, c.centre.ensures, c.centre-2.ensures)
