-- `contacts::math::shift` meets its contract: a number of at most 2^59 has a leading zero to spare. Assumes nothing.
use mathlib.Core.Path.{refl}
use Rattle.contacts.specs.Contacts.{shift_of}
use Rattle.contacts.proofs.Contacts.{leading_some}
use Rattle.contacts.proofs.math.shift.Goals as goal

pub overflow_sub-result : goal.overflow_sub-result
overflow_sub-result c = leading_some _ c.requires.0 c.requires.1

pub returns : goal.returns
unfolding shift_of
returns c = refl
