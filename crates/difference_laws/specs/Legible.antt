-- Document 02, request 14: the notes of a store are none exactly if it is sound.
use Rattle.std.specs.Prelude.{◌≡◌, true, List, [], ℕ, ◌≤◌, length}
use Rattle.paths.specs.Paths.{Within}
use Rattle.outline.specs.Layout.{edition_number, stroke_kind, front_bytes}
use Rattle.outline.specs.Stores.{edition_in, kind_in, edition_of, grade_in, count_in, length_in, path_in, sound_of}
use Rattle.outline.specs.Theorems.{Bytes}
use Rattle.outline.specs.declared.Form.TheVariants.{Stroke}
use Rattle.differences.specs.Differences.{notes_in}

-- a store of bytes whose header and vertices can be read: kind 0 of a known edition, the table inside the bytes, grade and vertices within the limits
pub record Legible (s : List ℕ) : Type 0 where
  pub bytes : Bytes s
  pub edition : edition_in s ≡ edition_number (edition_of (edition_in s))
  pub kind : kind_in s ≡ stroke_kind
  pub long : front_bytes (Stroke (edition_of (edition_in s))) (count_in s) ≤ length s
  pub within : Within (grade_in s) (path_in s)

-- The header's length then lies inside the bytes.
abbrev pub NoNotes : Type 0
NoNotes = (s : List ℕ) → Legible s
    → (notes_in s ≡ [] → (sound_of s ≡ true) × (length_in s ≤ length s))
    × (sound_of s ≡ true → notes_in s ≡ [])
