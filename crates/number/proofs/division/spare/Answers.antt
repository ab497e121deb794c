-- `number::division::spare` meets its contract. Assumes nothing.
use Rattle.std.proofs.Common.{◌≡◌, ℕ, suc, ◌+◌, ◌-◌, ◌^◌, ◌<◌, ◌≤◌, refl, inl, inr, lt_of_lt_of_le, arith, pow_mono, pow-add}
use native.Mathlib.Decide.{dec_le}
use lib.Count.{leading_top}
use Rattle.number.specs.Division.{Spared}
use Rattle.number.proofs.division.spare.Goals as goal

-- the top bit of d is bit j
cut : (d z j : ℕ) → z + suc j ≡ 64 → z < 30 → 2 ^ j ≤ d → d < 2 ^ suc j → Spared d (30 - z)
cut d z j e h l u =
    let a : suc j ≡ 34 + (30 - z) = omega arith in
    let b : j ≡ 33 + (30 - z) = omega arith in
    record {
      few = rw (← pow-add 2 34 (30 - z), ← a) u;
      many = inr (rw (← pow-add 2 33 (30 - z), ← b) l);
      short = omega arith;
    }

whole : (d z j : ℕ) → z + suc j ≡ 64 → 30 ≤ z → d < 2 ^ suc j → Spared d 0
whole d z j e h u = record {
  few = omega (arith, lt_of_lt_of_le u (pow_mono {i = suc j} {j = 34} (omega arith)));
  many = inl refl;
  short = omega arith;
}

either : (d z j : ℕ) → z + suc j ≡ 64 → 2 ^ j ≤ d → d < 2 ^ suc j → Dec (z < 30) → Spared d (30 - z)
either d z j e l u (yes h) = cut d z j e h l u
either d z j e l u (no h) = let n : 30 ≤ z = omega arith in let k : 30 - z ≡ 0 = omega arith in rw k (whole d z j e n u)

pub returns : goal.returns
returns c =
    let top = leading_top 64 c.args.den c.requires c.ranges.den.fits in
    rw c.saturating_sub.ensures (either _ _ top.0 top.1 top.2 top.3 (dec_le (suc _) 30))
