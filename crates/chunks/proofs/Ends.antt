-- Where entries end whose outlines stand one behind another. Assumes nothing.
use mathlib.Core.Path.{◌≡◌, ◌∙◌}
use mathlib.Core.List.{List, [], ◌∷◌}
use Prim.Native.Nat.{ℕ, zero, suc, ◌+◌, ◌≤◌, ◌<◌}
use native.Mathlib.Omega.{arith}
use lib.ListN.{length, get_or, take, length-append}
use Rattle.runs.specs.Runs.{spread}
use Rattle.chunk_table.specs.Tables.{offset_in, size_in}
use Rattle.chunks.specs.Chunks.{part_in, end_from}
use Rattle.chunk_table.proofs.Standing.{StandsFrom, stands_packed}
use Rattle.chunks.proofs.Laid.{part_length_lem}

pub end_upto : (c : List ℕ) (l : List ℕ) (at : ℕ) → StandsFrom c at l → end_from c l at ≤ length c
unfolding end_from
end_upto c [] at h = h.upto
end_upto c (i ∷ l) at h = end_upto c l (at + size_in c i) (stands_packed h)

pub end_from_lem : (c : List ℕ) (l : List ℕ) (at : ℕ) → at ≤ end_from c l at
unfolding end_from
end_from_lem c [] at = omega arith
end_from_lem c (i ∷ l) at = omega (arith, end_from_lem c l (at + size_in c i))

pub end_length : (c : List ℕ) (l : List ℕ) (at : ℕ) → StandsFrom c at l → end_from c l at ≡ at + length (spread (part_in c) l)
unfolding end_from spread part_in
end_length c [] at h = omega arith
end_length c (i ∷ l) at h =
    end_length c l (at + size_in c i) (stands_packed h)
    ∙ omega (arith, length-append (part_in c i) (spread (part_in c) l), part_length_lem c (offset_in c i) (size_in c i) h.inside.0)

-- the next begins behind where the earlier ones end
pub parts_below : (c : List ℕ) (l : List ℕ) (at k : ℕ) → StandsFrom c at l → k < length l → at + length (spread (part_in c) (take k l)) ≤ offset_in c (get_or l k 0)
unfolding spread part_in
parts_below c [] at k h d = absurd (omega arith)
parts_below c (i ∷ l) at zero h d = omega (arith, h.from.0)
parts_below c (i ∷ l) at (suc k) h d =
    omega (arith, parts_below c l (at + size_in c i) k (stands_packed h) (omega arith), length-append (part_in c i) (spread (part_in c) (take k l)), part_length_lem c (offset_in c i) (size_in c i) h.inside.0)
