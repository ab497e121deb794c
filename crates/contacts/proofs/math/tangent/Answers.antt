-- `contacts::math::tangent` meets its contract: the shift leaves room for the square. Assumes nothing.
use mathlib.Core.Path.{◌≡◌}
use Prim.Native.Nat.{◌*◌, ◌<◌}
use native.Mathlib.Omega.{arith}
use lib.IntN.{nat_abs}
use Rattle.plane.proofs.Products.{back}
use Rattle.contacts.proofs.Contacts.{Shifts}
use Rattle.contacts.proofs.Tangents.{shifts_as, tangent_back}
use Rattle.contacts.proofs.math.tangent.Goals.{After-unsigned_abs-d}
use Rattle.contacts.proofs.math.tangent.Goals as goal

length : (c : After-unsigned_abs-d) → c.unsigned_abs-d.result ≡ nat_abs c.args.delta
length c = rw (back c.ranges.delta) at c.unsigned_abs-d.ensures.value

square : (c : After-unsigned_abs-d) → c.unsigned_abs-d.result * c.unsigned_abs-d.result < c.args.sq
square c = rw (length c) c.requires.0

room : (c : After-unsigned_abs-d) → Shifts c.args.sq c.args.k
room c = shifts_as _ _ (omega (arith, c.requires.0)) c.requires.1 c.requires.2

pub overflow_mul-n-2 : goal.overflow_mul-n-2
overflow_mul-n-2 c = omega (arith, (room c).high)

pub overflow_shl-n : goal.overflow_shl-n
overflow_shl-n c = omega (arith, (room c).high)

pub returns : goal.returns
returns c =
    tangent_back _ _ (omega (arith, c.requires.0)) c.requires.1 c.requires.2 _ (length (goal.at.returns c).After-unsigned_abs-d) c.root.ensures
