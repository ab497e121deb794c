-- Document 02, request 14: what salvage writes, and what it lists, of stores of bytes.
use Rattle.std.specs.Prelude.{◌≡◌, true, List, [], ℕ, ◌≤◌, length, take}
use Rattle.outline.specs.Stores.{form_in, grade_in, length_in, path_in, posts_in, due_in, sound_of}
use Rattle.outline.specs.Theorems.{Bytes}
use Rattle.differences.specs.Differences.{notes_in}
use Rattle.salvaging.specs.Salvaging.{salvage_reply, salvage_out}

-- What salvage writes is sound, with the same vertices, posts, grade and form.
abbrev pub SalvagedIsSound : Type 0
SalvagedIsSound = (s out : List ℕ) (words : ℕ) → Bytes s → (salvage_reply s (length out) words).0 ≡ 0
    → (form_in (salvage_out s out words) ≡ form_in s)
    × (grade_in (salvage_out s out words) ≡ grade_in s)
    × (posts_in (salvage_out s out words) ≡ posts_in s)
    × (path_in (salvage_out s out words) ≡ path_in s)
    × (sound_of (salvage_out s out words) ≡ true)

-- The list is empty exactly if the old store was sound; a sound outline comes through byte for byte.
abbrev pub EmptyIsSound : Type 0
EmptyIsSound = (s : List ℕ) (room words : ℕ) → Bytes s → (salvage_reply s room words).0 ≡ 0
    → (notes_in s ≡ [] → (sound_of s ≡ true) × (length_in s ≤ length s))
    × (sound_of s ≡ true → notes_in s ≡ [])

abbrev pub SoundComesThrough : Type 0
SoundComesThrough = (s out : List ℕ) (words : ℕ) → (salvage_reply s (length out) words).0 ≡ 0 → sound_of s ≡ true → take (length (due_in s)) (salvage_out s out words) ≡ take (length_in s) s
