-- Document 01, "Numbers underneath": `mul_div`. Document 02, request 7: whether it is exact.
use Rattle.std.specs.Prelude.{ℕ, suc, ◌+◌, ◌*◌, ◌/◌, ◌%◌, Bool, true, false, ℤ, pos, negsuc, ◌*ℤ◌, neg_ℤ, ◌==◌, unsigned_abs}

-- n, or minus n
abbrev pub with_sign : Bool → ℕ → ℤ
with_sign true n = neg_ℤ (pos n)
with_sign false n = pos n

-- The nearest whole number to n / d, the larger of two.
unfoldable pub nearest_of : ℕ → ℕ → ℕ
nearest_of n d = (2 * n + d) / (2 * d)

-- The same with the sign worked out apart: halves away from zero.
unfoldable pub rounded_of : ℤ → ℕ → ℤ
rounded_of (pos n) d = pos (nearest_of n d)
rounded_of (negsuc n) d = neg_ℤ (pos (nearest_of (suc n) d))

-- The product over the divisor.
unfoldable pub mul_div_of : ℤ → ℤ → ℕ → ℤ
mul_div_of a b d = rounded_of (a *ℤ b) d

-- Document 02, request 7: whether a division leaves nothing over,
unfoldable pub none_left : ℕ → ℕ → Bool
none_left n d = n % d == 0

-- and whether that of a product does: its sign leaves what is left over as it is.
unfoldable pub exact_of : ℤ → ℤ → ℕ → Bool
exact_of a b d = none_left (unsigned_abs a * unsigned_abs b) d
