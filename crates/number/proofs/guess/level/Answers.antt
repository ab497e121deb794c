-- `number::guess::level` meets its contract: a number that is not 0 has at most 63 leading zeros, and half of them shift nothing out. Assumes
-- nothing.
use Rattle.std.proofs.Common.{ℕ, suc, ◌+◌, ◌*◌, ◌/◌, ◌^◌, ◌<◌, ◌≤◌, lt_of_lt_of_le, arith, pow_mono, shl_lt}
use lib.Count.{count_leading_zeros, leading_top}
use Rattle.whole.proofs.Squares.{four_power}
use Rattle.number.proofs.guess.level.Goals as goal

level_fits : (s : ℕ) → 0 < s → s < 2 ^ 64 → (count_leading_zeros 64 s / 2 ≤ 31) × (s * 4 ^ (count_leading_zeros 64 s / 2) < 2 ^ 64)
level_fits s h l =
    let top = leading_top 64 s h l in
    let k = count_leading_zeros 64 s / 2 in
    (omega (arith, top.1), rw (four_power k) (lt_of_lt_of_le (shl_lt (suc top.0) (2 * k) top.3) (pow_mono {i = suc top.0 + 2 * k} {j = 64} (omega (arith, top.1)))))

pub returns : goal.returns
returns c = level_fits c.args.s c.requires c.ranges.s.fits
