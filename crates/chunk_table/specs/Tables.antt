-- Document 02, request 8: the table of contents of a chunk, when it is damaged, and its entries in use in order of offset.
use Rattle.std.specs.Prelude.{Bool, not, ◌||◌, ◌&&◌, List, ℕ, ◌+◌, ◌*◌, eqb, ltb, length}
use Rattle.words.specs.Words.{word_from}
use Rattle.chunk_table.specs.Search.{any_below, first_from, ordered_on}
use Rattle.chunk_table.specs.declared.table.Field.{Field}
use Rattle.chunk_table.specs.declared.table.Field.TheVariants as field

-- ---- the table, in words: number of entries, and for each its key, offset and length

abbrev pub most_entries : ℕ
most_entries = 1024

abbrev pub most_bytes : ℕ
most_bytes = 4294967295

-- bytes of a table of n entries
abbrev pub table_bytes : ℕ → ℕ
table_bytes n = 4 + 12 * n

-- where entry i begins, and its offset and its length
abbrev pub key_place : ℕ → ℕ
key_place i = 4 + 12 * i

abbrev pub offset_place : ℕ → ℕ
offset_place i = 8 + 12 * i

abbrev pub size_place : ℕ → ℕ
size_place i = 12 + 12 * i

-- a word of entry i, by its place in the first
abbrev pub entry_word : List ℕ → ℕ → ℕ → ℕ
entry_word c place i = word_from c (place + 12 * i)

-- where a word of the first entry stands
abbrev pub field_place : Field → ℕ
field_place field.Key = 4
field_place field.Offset = 8
field_place field.Size = 12

-- a word of entry i
abbrev pub field_in : List ℕ → Field → ℕ → ℕ
field_in c f i = entry_word c (field_place f) i

abbrev pub entry_count : List ℕ → ℕ
entry_count c = word_from c 0

abbrev pub key_in : List ℕ → ℕ → ℕ
key_in c i = word_from c (key_place i)

abbrev pub offset_in : List ℕ → ℕ → ℕ
offset_in c i = word_from c (offset_place i)

abbrev pub size_in : List ℕ → ℕ → ℕ
size_in c i = word_from c (size_place i)

-- where the table ends
abbrev pub front_in : List ℕ → ℕ
front_in c = table_bytes (entry_count c)

-- An entry of length 0 is empty.
unfoldable pub empty_at : List ℕ → ℕ → Bool
empty_at c i = eqb (size_in c i) 0

unfoldable pub used_at : List ℕ → ℕ → Bool
used_at c i = not (empty_at c i)

-- ---- damaged

-- an entry that overlaps the table, or leaves the chunk
unfoldable pub outside_at : List ℕ → ℕ → Bool
outside_at c i = ltb (offset_in c i) (front_in c) || ltb (length c) (offset_in c i + size_in c i)

-- two entries that overlap
unfoldable pub overlap : List ℕ → ℕ → ℕ → Bool
overlap c i j = ltb (offset_in c i) (offset_in c j + size_in c j) && ltb (offset_in c j) (offset_in c i + size_in c i)

-- an entry i in use with j's key, or that overlaps j
unfoldable pub clash : List ℕ → ℕ → ℕ → Bool
clash c j i = used_at c i && (eqb (key_in c i) (key_in c j) || overlap c i j)

-- an entry in use that does not stand where it may, or that an earlier one clashes with
unfoldable pub spoilt : List ℕ → ℕ → Bool
spoilt c j = used_at c j && (outside_at c j || any_below (clash c j) j)

-- The table is damaged exactly if the chunk is above 4,294,967,295 bytes, or it holds more than 1,024 entries, runs past the chunk, has one key
-- in use twice, or has an entry in use that overlaps the table or another entry or leaves the chunk. Under 4 bytes there is no table.
unfoldable pub damaged_in : List ℕ → Bool
damaged_in c =
    ltb most_bytes (length c)
    || (ltb (length c) 4
    || (ltb most_entries (entry_count c)
    || (ltb (length c) (front_in c)
    || any_below (spoilt c) (entry_count c))))

-- ---- a key's entry, the first empty one, and the entries in use in order of offset

unfoldable pub holds_key : List ℕ → ℕ → ℕ → Bool
holds_key c key i = used_at c i && eqb (key_in c i) key

-- the entry in use with a key; the number of entries where there is none
unfoldable pub key_entry : List ℕ → ℕ → ℕ
key_entry c key = first_from (holds_key c key) 0 (entry_count c)

-- the first empty entry; the number of entries where there is none
unfoldable pub empty_entry : List ℕ → ℕ
empty_entry c = first_from (empty_at c) 0 (entry_count c)

unfoldable pub in_order : List ℕ → List ℕ
in_order c = ordered_on (used_at c) (offset_in c) (entry_count c)
