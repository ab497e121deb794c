-- `contacts::math::contact` meets its contract: each component of the numerator is at most the divisor. Assumes nothing.
use Rattle.contacts.proofs.Tangents.{x_ready, y_ready, contact_back, contact_even}
use Rattle.contacts.proofs.math.contact.Goals as goal

pub moved-x-requires : goal.moved-x-requires
moved-x-requires c = x_ready _ _ _ c.requires.0 c.requires.1 c.requires.2 c.requires.3

pub moved-y-requires : goal.moved-y-requires
moved-y-requires c = y_ready _ _ _ c.requires.0 c.requires.1 c.requires.2 c.requires.3

pub returns-then-x : goal.returns-then-x
returns-then-x c = (
  contact_back _ _ _ c.requires.0 c.requires.1 c.requires.2 c.requires.3 c.moved-x.ensures.0 c.moved-y.ensures.0,
  contact_even _ _ _ c.requires.0 c.requires.1 c.requires.2 c.requires.3 c.moved-x.ensures.1 c.moved-y.ensures.1 (rw c.if-x.true),
)

pub returns-else-x : goal.returns-else-x
returns-else-x c = (
  contact_back _ _ _ c.requires.0 c.requires.1 c.requires.2 c.requires.3 c.moved-x.ensures.0 c.moved-y.ensures.0,
  contact_even _ _ _ c.requires.0 c.requires.1 c.requires.2 c.requires.3 c.moved-x.ensures.1 c.moved-y.ensures.1 (rw c.if-x.false),
)
