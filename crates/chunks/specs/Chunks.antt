-- Document 02, request 8: a chunk's outlines and gaps, the chunk compacted, and one outline put in or taken out.
use Rattle.std.specs.Prelude.{true, false, Option, Some, None, List, [], ◌∷◌, ◌++◌, ℕ, ◌+◌, ◌-◌, leb, length, take, drop, replicate}
use Rattle.runs.specs.Runs.{spread, over, put}
use Rattle.words.specs.Words.{four_bytes}
use Rattle.chunk_table.specs.Tables.{key_place, offset_place, offset_in, size_in, front_in, in_order}

-- the bytes of entry i's outline
unfoldable pub part_in : List ℕ → ℕ → List ℕ
part_in c i = take (size_in c i) (drop (offset_in c i) c)

-- ---- gaps

-- The lowest gap of n bytes from a place on, before, between and behind the entries that are left.
unfoldable pub gap_from : List ℕ → ℕ → List ℕ → ℕ → Option ℕ
gap_from c n [] at = elim (leb (at + n) (length c)) [ true ↦ Some at | false ↦ None ]
gap_from c n (i ∷ is) at = elim (leb (at + n) (offset_in c i)) [ true ↦ Some at | false ↦ gap_from c n is (offset_in c i + size_in c i) ]

unfoldable pub gap_in : List ℕ → ℕ → Option ℕ
gap_in c n = gap_from c n (in_order c) (front_in c)

-- ---- compacted

-- the outlines in order of offset, one behind another
unfoldable pub outlines_in : List ℕ → List ℕ
outlines_in c = spread (part_in c) (in_order c)

-- where entries end whose outlines stand one behind another from a place on
unfoldable pub end_from : List ℕ → List ℕ → ℕ → ℕ
end_from c [] at = at
end_from c (i ∷ is) at = end_from c is (at + size_in c i)

-- where the one gap begins
unfoldable pub end_in : List ℕ → ℕ
end_in c = end_from c (in_order c) (front_in c)

-- the table, the outlines, and zeros
unfoldable pub packed_of : List ℕ → List ℕ
packed_of c = take (front_in c) c ++ (outlines_in c ++ replicate (length c - end_in c) 0)

-- the offsets of entries whose outlines stand one behind another from a place on; their lengths are c's
unfoldable pub renumbered : List ℕ → List ℕ → ℕ → List ℕ → List ℕ
renumbered c [] at s = s
renumbered c (i ∷ is) at s = renumbered c is (at + size_in c i) (over put s (offset_place i) (four_bytes at))

-- Compacting keeps the order of offsets; the one gap, at the end, is zeroed. Nothing else of the table changes.
unfoldable pub compacted_of : List ℕ → List ℕ
compacted_of c = renumbered c (in_order c) (front_in c) (packed_of c)

-- ---- one outline put in, or taken out

-- an outline at a place, and its entry
unfoldable pub with_outline : List ℕ → ℕ → ℕ → ℕ → List ℕ → List ℕ
with_outline c i key at made = over put (over put c at made) (key_place i) (four_bytes key ++ (four_bytes at ++ four_bytes (length made)))

-- Removing zeroes entry and outline.
unfoldable pub without : List ℕ → ℕ → List ℕ
without c i = over put (over put c (offset_in c i) (replicate (size_in c i) 0)) (key_place i) (replicate 12 0)
