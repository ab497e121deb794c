-- Document 01, "The kept outline", and document 02, requests 3 and 11: editions, kinds and lengths, each here alone. They are appended, never renumbered.
use Rattle.std.specs.Prelude.{ℕ, suc, ◌+◌, ◌*◌}
use Rattle.outline.specs.declared.Edition.{Edition}
use Rattle.outline.specs.declared.Edition.TheVariants.{First, Second}
use Rattle.outline.specs.declared.Form.{Form}
use Rattle.outline.specs.declared.Form.TheVariants.{Stroke, Kerb}

-- Edition 1, and edition 2 of kind 0.
abbrev pub first_edition : ℕ
first_edition = 1

abbrev pub second_edition : ℕ
second_edition = 2

unfoldable pub edition_number : Edition → ℕ
edition_number First = first_edition
edition_number Second = second_edition

-- Kind 0: a radius at each vertex. Kind 1: a kerb of one width.
abbrev pub stroke_kind : ℕ
stroke_kind = 0

abbrev pub kerb_kind : ℕ
kerb_kind = 1

abbrev pub kind_word : Form → ℕ
kind_word (Stroke e) = stroke_kind
kind_word (Kerb y) = kerb_kind

-- Kind 1 stays at edition 1.
abbrev pub edition_word : Form → ℕ
edition_word (Stroke e) = edition_number e
edition_word (Kerb y) = first_edition

-- An entry of kind 0 ends with a count, after x, y and radius; edition 2 has one more word after the radius.
unfoldable pub count_place : Edition → ℕ
count_place First = 3
count_place Second = 4

unfoldable pub stroke_words : Edition → ℕ
stroke_words e = suc (count_place e)

unfoldable pub stroke_bytes : Edition → ℕ
stroke_bytes e = 4 * stroke_words e

-- Words of the header, of a vertex's entry, and of the counts after the entries.
abbrev pub header_words : Form → ℕ
header_words (Stroke e) = 5
header_words (Kerb y) = 8

abbrev pub entry_words : Form → ℕ
entry_words (Stroke e) = stroke_words e
entry_words (Kerb y) = 2

abbrev pub count_words : Form → ℕ
count_words (Stroke e) = 1
count_words (Kerb y) = 3

-- Bytes of the header, of an entry and of an edge.
abbrev pub header_bytes : Form → ℕ
header_bytes f = 4 * header_words f

abbrev pub entry_bytes : Form → ℕ
entry_bytes (Stroke e) = stroke_bytes e
entry_bytes (Kerb y) = 4 * entry_words (Kerb y)

abbrev pub edge_bytes : ℕ
edge_bytes = 16

-- Bytes of an outline with no vertex: a header and the counts.
abbrev pub least_bytes : Form → ℕ
least_bytes f = header_bytes f + 4 * count_words f

-- The word at which entry k begins; past the entries, the counts.
abbrev pub entry_at : Form → ℕ → ℕ
entry_at f k = header_words f + entry_words f * k

-- Bytes before the bodies: header, n entries and the counts.
abbrev pub front_bytes : Form → ℕ → ℕ
front_bytes f n = least_bytes f + entry_bytes f * n

-- Length 24 + 16n + 16m bytes for kind 0, in edition 2 24 + 20n + 16m, and 44 + 8n + 16m for kind 1.
abbrev pub length_of : Form → ℕ → ℕ → ℕ
length_of f n m = front_bytes f n + edge_bytes * m
