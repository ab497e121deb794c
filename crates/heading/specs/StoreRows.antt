-- Document 01, "Replies, tested in this order", and document 02, requests 3 and 11: the rows of a store.
use Rattle.std.specs.Prelude.{Bool, true, false, not, ◌&&◌, ◌||◌, List, [], ◌∷◌, ℕ, eqb, ltb, length}
use Rattle.words.specs.Words.{word_at}
use Rattle.outline.specs.Layout.{first_edition, second_edition, kerb_kind}
use Rattle.outline.specs.Stores.{edition_in, kind_in, grade_in, count_in, length_in, path_in, sound_of, differing_in}
use Rattle.replies.specs.Replies.{Row, grade_row, count_row, outside_row}
use Rattle.replies.specs.StyleRows.{style_row}

-- 6, under 24 bytes, or edition not 1 or 2.
unfoldable pub edition_row : List ℕ → Row
edition_row s = (ltb (length s) 24 || (ltb (edition_in s) first_edition || ltb second_edition (edition_in s)), (6, 0))

-- 7, kind not 0 or 1: the kind.
unfoldable pub kind_row : List ℕ → Row
kind_row s = (ltb kerb_kind (kind_in s), (7, kind_in s))

-- 6, kind 1 under 44 bytes or of edition 2.
unfoldable pub least_of : ℕ → ℕ
least_of k = elim (eqb k kerb_kind) [ true ↦ 44 | false ↦ 24 ]

unfoldable pub misplaced_of : ℕ → ℕ → Bool
misplaced_of kind edition = eqb kind kerb_kind && eqb edition second_edition

unfoldable pub unfit_row : List ℕ → Row
unfit_row s = (ltb (length s) (least_of (kind_in s)) || misplaced_of (kind_in s) (edition_in s), (6, 0))

-- 11, the first of kind 1's radius, join and closed outside its range: its header place.
unfoldable pub style_row_in : List ℕ → Row
style_row_in s = (eqb (kind_in s) kerb_kind && (style_row (word_at s 5) (word_at s 6) (word_at s 7)).0, (style_row (word_at s 5) (word_at s 6) (word_at s 7)).1)

-- 6, store shorter than its header says.
unfoldable pub length_row : List ℕ → Row
length_row s = (ltb (length s) (length_in s), (6, 0))

-- 8, store not sound: the first differing byte.
unfoldable pub sound_row : List ℕ → Row
sound_row s = (not (sound_of s), (8, differing_in s))

-- read, replace: the rows of a store
unfoldable pub store_rows : List ℕ → List Row
store_rows s = edition_row s ∷ kind_row s ∷ unfit_row s ∷ grade_row (grade_in s) ∷ style_row_in s ∷ count_row (count_in s) ∷ length_row s ∷ outside_row (path_in s) ∷ sound_row s ∷ []
