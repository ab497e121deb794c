-- Document 02, request 8, "Refusals, in order": each call's rows, and every byte of the chunk afterwards.
use Rattle.std.specs.Prelude.{true, false, ◌||◌, Option, Some, None, List, [], ◌∷◌, ◌++◌, ℕ, ◌+◌, ◌*◌, eqb, ltb, leb, length, replicate}
use Rattle.words.specs.Words.{four_bytes}
use Rattle.replies.specs.Replies.{Reply, Row, first_row, room_row, written}
use Rattle.chunk_table.specs.Tables.{most_entries, most_bytes, table_bytes, entry_count, offset_in, size_in, damaged_in, key_entry, empty_entry}
use Rattle.chunks.specs.Chunks.{gap_in, end_in, compacted_of, with_outline, without}

-- ---- rows

-- 14, damaged table.
unfoldable pub table_row : List ℕ → Row
table_row c = (damaged_in c, (14, 0))

-- 14, making one with too many entries or past the chunk, or in too long a chunk.
unfoldable pub make_row : List ℕ → ℕ → Row
make_row c n = (ltb most_bytes (length c) || (ltb most_entries n || ltb (length c) (table_bytes n)), (14, 0))

-- 15, key already there: the key.
unfoldable pub there_row : List ℕ → ℕ → Row
there_row c key = (ltb (key_entry c key) (entry_count c), (15, key))

-- 16, key not there: the key.
unfoldable pub missing_row : List ℕ → ℕ → Row
missing_row c key = (leb (entry_count c) (key_entry c key), (16, key))

-- 17, table full: its entries.
unfoldable pub full_row : List ℕ → Row
full_row c = (leb (entry_count c) (empty_entry c), (17, entry_count c))

-- 5, no room even after compacting: the outline's bytes.
unfoldable pub packed_row : List ℕ → ℕ → Row
packed_row c n = room_row (end_in c + n) (length c) n

-- The chunk afterwards, of which any byte may be another: a refusal changes none.
unfoldable pub changed : Reply → List ℕ → List ℕ → List ℕ
changed r made c = elim (eqb r.0 0) [ true ↦ made | false ↦ c ]

-- ---- make: the table's bytes; an empty table of zeros, no more

unfoldable pub make_reply : List ℕ → ℕ → Reply
make_reply c n = first_row (make_row c n ∷ []) (0, table_bytes n)

unfoldable pub make_out : List ℕ → ℕ → List ℕ
make_out c n = written (make_reply c n) (four_bytes n ++ replicate (12 * n) 0) c

-- ---- find: the length, with the offset beside it (0 when refused)

unfoldable pub find_reply : List ℕ → ℕ → Reply
find_reply c key = first_row (table_row c ∷ missing_row c key ∷ []) (0, size_in c (key_entry c key))

unfoldable pub find_offset : List ℕ → ℕ → ℕ
find_offset c key = elim (eqb (find_reply c key).0 0) [ true ↦ offset_in c (key_entry c key) | false ↦ 0 ]

-- ---- remove: the entry's bytes

unfoldable pub remove_reply : List ℕ → ℕ → Reply
remove_reply c key = find_reply c key

unfoldable pub remove_out : List ℕ → ℕ → List ℕ
remove_out c key = changed (remove_reply c key) (without c (key_entry c key)) c

-- ---- compact: the bytes before the gap

unfoldable pub compact_reply : List ℕ → Reply
compact_reply c = first_row (table_row c ∷ []) (0, end_in c)

unfoldable pub compact_out : List ℕ → List ℕ
compact_out c = changed (compact_reply c) (compacted_of c) c

-- ---- add, once the table is known to be sound, and the outline too: the outline's bytes

unfoldable pub put_rows : List ℕ → ℕ → ℕ → List Row
put_rows c key n = there_row c key ∷ full_row c ∷ packed_row c n ∷ []

unfoldable pub put_reply : List ℕ → ℕ → ℕ → Reply
put_reply c key n = first_row (put_rows c key n) (0, n)

-- In the first empty entry and the lowest gap that fits, compacted first if none does.
unfoldable pub added_in : Option ℕ → List ℕ → ℕ → List ℕ → List ℕ
added_in (Some at) c key made = with_outline c (empty_entry c) key at made
added_in None c key made = with_outline (compacted_of c) (empty_entry c) key (end_in c) made

unfoldable pub put_out : List ℕ → ℕ → List ℕ → List ℕ
put_out c key made = changed (put_reply c key (length made)) (added_in (gap_in c (length made)) c key made) c
