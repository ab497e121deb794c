-- Document 02, request 5: what is asked of a float. A float is `nan`, `inf s` or `fin s m e`, the number m * 2 ^ e, negative where s is true;
-- 2 ^ e is up e / down e.
use Rattle.std.specs.Prelude.{ℕ, zero, suc, ◌*◌, ◌/◌, ◌%◌, Bool, true, false, not, ℤ, pos, neg_ℤ, ◌==◌, Float}
use Rattle.std.specs.Float.{nan, inf, fin}
use Rattle.std.specs.Float.Ieee.{up, down}

unfoldable pub is_infinite : Float → Bool
is_infinite nan = false
is_infinite (inf s) = true
is_infinite (fin s m e) = false

unfoldable pub has_fraction : Float → Bool
has_fraction nan = false
has_fraction (inf s) = false
has_fraction (fin s m e) = not (m * up e % down e == 0)

-- its size, without a fraction
unfoldable pub magnitude_of : Float → ℕ
magnitude_of nan = 0
magnitude_of (inf s) = 0
magnitude_of (fin s m e) = m * up e / down e

-- its number, without a fraction; minus zero counts as zero
unfoldable pub whole_of : Float → ℤ
whole_of nan = pos 0
whole_of (inf s) = pos 0
whole_of (fin true m e) = neg_ℤ (pos (m * up e / down e))
whole_of (fin false m e) = pos (m * up e / down e)

-- the same float, but zero for minus zero
unfoldable pub plain_zero : Float → Float
plain_zero nan = nan
plain_zero (inf s) = inf s
plain_zero (fin s zero e) = fin false 0 (pos 0)
plain_zero (fin s (suc m) e) = fin s (suc m) e
