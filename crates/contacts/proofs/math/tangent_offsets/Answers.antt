-- `contacts::math::tangent_offsets` meets its contract: the square, its shift and its tangent leave room for both numerators.
-- Assumes nothing.
use Prim.Native.Nat.{◌*◌, ◌^◌, ◌≤◌, ◌<◌}
use native.Mathlib.Omega.{arith}
use lib.IntN.{nat_abs}
use Rattle.plane.proofs.Products.{bits, back}
use Rattle.contacts.proofs.Contacts.{line_square}
use Rattle.contacts.proofs.Tangents.{Known, known, tangents, left_is, right_is, divisor_is}
use Rattle.contacts.proofs.math.tangent_offsets.Goals.{After-square-sq, After-tangent-t}
use Rattle.contacts.proofs.math.tangent_offsets.Goals as goal

-- the square, then the shift and the tangent too
most : (c : After-square-sq) → c.square-sq.result ≤ 2 ^ 59
most c = rw c.square-sq.ensures (line_square c.requires.0)

above : (c : After-square-sq) → nat_abs (bits c.args.delta) * nat_abs (bits c.args.delta) < c.square-sq.result
above c = rw (back c.ranges.delta, c.square-sq.ensures) c.requires.1

facts : (c : After-tangent-t) → Known (bits c.args.delta) c.square-sq.result c.shift-k.result c.tangent-t.result
facts c = known _ _ _ _ (above c.before.before) (most c.before.before) c.shift-k.ensures c.tangent-t.ensures

pub shift-k-requires : goal.shift-k-requires
shift-k-requires c = (omega (arith, above c), most c)

pub tangent-t-requires : goal.tangent-t-requires
tangent-t-requires c = (above (goal.at.tangent-t-requires c).After-square-sq, most (goal.at.tangent-t-requires c).After-square-sq, c.shift-k.ensures)

pub numerator-requires : goal.numerator-requires
numerator-requires c = let k = facts c in (c.requires.0, k.scaled, k.shifts.high, search (tangents, k.tangent))

pub numerator-requires-2 : goal.numerator-requires-2
numerator-requires-2 c = let k = facts (goal.at.numerator-requires-2 c).After-tangent-t in (c.requires.0, k.scaled, k.shifts.high, search (tangents, k.tangent))

pub overflow_shl-result : goal.overflow_shl-result
overflow_shl-result c = omega (arith, (facts (goal.at.overflow_shl-result c).After-tangent-t).shifts.high)

pub returns : goal.returns
returns c =
    let k = facts (goal.at.returns c).After-tangent-t in record { left = left_is _ _ c.ranges.delta c.square-sq.ensures c.shift-k.ensures c.tangent-t.ensures k.tangent c.numerator.ensures; right = right_is _ _ c.ranges.delta c.square-sq.ensures c.shift-k.ensures c.tangent-t.ensures k.tangent c.numerator-2.ensures; divisor = divisor_is _ c.square-sq.ensures c.shift-k.ensures k.shifts.divisor }
