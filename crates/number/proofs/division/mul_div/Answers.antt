-- `number::division::mul_div` meets its contract: the nearest of the sizes, with the sign of the product. Assumes nothing.
use Rattle.std.proofs.Common.{◌≡◌, ◌*◌, nat_abs, sym, ap, ◌∙◌, to_z-of_z, w64}
use Rattle.whole.proofs.Order.{positive}
use Rattle.number.specs.MulDiv.{with_sign, nearest_of, none_left, exact_of}
use Rattle.number.proofs.Nearest.{apart, mul-div_sign}
use Rattle.number.proofs.division.mul_div.Goals as goal

pub returns : goal.returns
unfolding exact_of
returns c =
    let a = c.args.a in
    let b = c.args.b in
    let d = nat_abs c.args.d in
    let ha = c.ranges.a in
    let hb = c.ranges.b in
    let hd = c.ranges.d in
    let n : c.nearest-q.result.quotient ≡ nearest_of (nat_abs a * nat_abs b) d =
    simp (to_z-of_z, c.unsigned_abs.ensures.value, c.unsigned_abs-2.ensures.value) at c.nearest-q.ensures.0 in
    let x : c.nearest-q.result.exact ≡ none_left (nat_abs a * nat_abs b) d =
    simp (to_z-of_z, c.unsigned_abs.ensures.value, c.unsigned_abs-2.ensures.value) at c.nearest-q.ensures.2 in
    let e : c.signed.result ≡ with_sign (apart a b) c.nearest-q.result.quotient = simp to_z-of_z at c.signed.ensures in
    (to_z-of_z {w = w64} (record { sfits = c.signed.type_inv }) ∙ e ∙ ap (with_sign (apart a b)) n ∙ sym (mul-div_sign a b d (positive c.requires.2).2), x)
