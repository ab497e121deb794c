-- Document 02, request 13: convert redraws a kept outline in place at the grade that its caller names; its answer, its promise, and what it leaves.
use Rattle.std.specs.Prelude.{◌≡◌, true, List, [], ◌∷◌, ◌++◌, ℕ, ◌+◌, ◌-◌, ◌≤◌, ◌<◌, length, take, drop, replicate, Result}
use Rattle.runs.specs.Runs.{spread}
use Rattle.contacts.specs.declared.Vertex.{Vertex}
use Rattle.paths.specs.Paths.{path_numbers}
use Rattle.outline.specs.Outlines.{edges_for, outline_bytes}
use Rattle.outline.specs.Stores.{form_in, grade_in, length_in, path_in, posts_in, sound_of}
use Rattle.outline.specs.declared.Edition.TheVariants.{Second}
use Rattle.outline.specs.declared.Form.{Form}
use Rattle.outline.specs.declared.Form.TheVariants.{Stroke, Kerb}
use Rattle.kerb.specs.Styles.{style_of}
use Rattle.replies.specs.Replies.{Reply, first_row, draw_grade_row, room_row, written}
use Rattle.replies.specs.Refusals.{reply_of}
use Rattle.replies.specs.declared.Refusal.{Refusal}
use Rattle.replies.specs.StyleRows.{style_fault}
use Rattle.heading.specs.Shows.{point_numbers}
use Rattle.heading.specs.StoreRows.{store_rows}
use Rattle.keeping.specs.Keeping.{keep_reply, keep_out}
use Rattle.kerb_keeping.specs.KerbKeeping.{keep_kerb_reply, keep_kerb_out}

-- ---- the outline of the store's own path, form and posts at the grade g

unfoldable pub converted_of : List ℕ → ℕ → List ℕ
converted_of s g = outline_bytes (form_in s) g (posts_in s) (path_in s)

-- Refused as reading is but 5, then 3 if the grade named is not 2 to 8, then 5. There is no 18: an outline without edges is written too.
unfoldable pub convert_reply : List ℕ → ℕ → Reply
convert_reply s g =
    let m = length (converted_of s g) in
    first_row (store_rows s ++ (draw_grade_row g ∷ room_row m (length s) m ∷ [])) (0, m)

-- Replacement's room and zeros: an outline that shrank is followed by zeros up to its old end.
unfoldable pub convert_out : List ℕ → ℕ → List ℕ
convert_out s g =
    let made = converted_of s g in
    written (convert_reply s g) (made ++ replicate (length_in s - length made) 0) s

-- the promise: reply, number and every byte of the store afterwards
pub record ConvertsOutline (store₀ : List ℕ) (grade : ℕ) (answer : Result ℕ Refusal) (store₁ : List ℕ) : Type 0 where
  pub reply : reply_of answer ≡ convert_reply store₀ grade
  pub store : store₁ ≡ convert_out store₀ grade

abbrev pub OneConverting : Type 0
OneConverting = (s : List ℕ) (g : ℕ) (r q : Result ℕ Refusal) (o p : List ℕ) → ConvertsOutline s g r o → ConvertsOutline s g q p → (r ≡ q) × (o ≡ p)

-- the outline of a path and its posts over the bytes s₀, in which an old one ends at `old`: the row of the room replies, and after 0 it is written
pub record Redraws (s₀ : List ℕ) (f : Form) (g : ℕ) (ps : List ℕ) (vs : List Vertex) (old : ℕ) (answer : Result ℕ Refusal) (s₁ : List ℕ) : Type 0 where
  pub reply : reply_of answer ≡ first_row (room_row (length (outline_bytes f g ps vs)) (length s₀) (length (outline_bytes f g ps vs)) ∷ []) (0, length (outline_bytes f g ps vs))
  pub bytes : s₁ ≡ written (reply_of answer) (outline_bytes f g ps vs ++ replicate (old - length (outline_bytes f g ps vs)) 0) s₀

-- ---- what it leaves

-- A converted store is sound, has the grade named, and is of the same form, with the same path and posts.
abbrev pub ConvertedIsSound : Type 0
ConvertedIsSound = (s : List ℕ) (g : ℕ) → (convert_reply s g).0 ≡ 0
    → (grade_in (convert_out s g) ≡ g)
    × (path_in (convert_out s g) ≡ path_in s)
    × (sound_of (convert_out s g) ≡ true)
    × (form_in (convert_out s g) ≡ form_in s)
    × (posts_in (convert_out s g) ≡ posts_in s)

-- A sound store converts to every grade from 2 to 8 for which there is room.
abbrev pub SoundConverts : Type 0
SoundConverts = (s : List ℕ) (g : ℕ) → ((more : Reply) → first_row (store_rows s) more ≡ more) → 2 ≤ g → g ≤ 8 → length (converted_of s g) ≤ length s → convert_reply s g ≡ (0, length (converted_of s g))

-- A converted store begins with the outline of its path at that grade, in its own edition and with every post; then come zeros up to the old end; and past
-- both the store is as it was. Here m is the new outline's length, and z how many zeros there are.
abbrev pub ConvertedBytes : Type 0
ConvertedBytes = (s : List ℕ) (g m z : ℕ) → convert_reply s g ≡ (0, m) → z ≡ length_in s - m
    → (take m (convert_out s g) ≡ outline_bytes (form_in s) g (posts_in s) (path_in s))
    × (take z (drop m (convert_out s g)) ≡ replicate z 0)
    × (drop (m + z) (convert_out s g) ≡ drop (m + z) s)

-- Those are the bytes that keeping the path at that grade writes, where it has edges: in edition 2 ..
abbrev pub ConvertedIsKept : Type 0
ConvertedIsKept = (s : List ℕ) (g m : ℕ) (room : List ℕ) → convert_reply s g ≡ (0, m) → m ≤ length room → (0 < length (path_in s) → 0 < length (edges_for (form_in s) g (path_in s)))
    → form_in s ≡ Stroke Second
    → (keep_reply (path_numbers (path_in s)) (posts_in s) g (length room) ≡ (0, m))
    × (take m (convert_out s g) ≡ take m (keep_out (path_numbers (path_in s)) (posts_in s) g room))

-- .. and of a kerb, with its radius, join and closed.
abbrev pub ConvertedKerbIsKept : Type 0
ConvertedKerbIsKept = (s : List ℕ) (g r j c m : ℕ) (room : List ℕ) → convert_reply s g ≡ (0, m) → m ≤ length room → (0 < length (path_in s) → 0 < length (edges_for (form_in s) g (path_in s)))
    → style_fault r j c ≡ 0 → form_in s ≡ Kerb (style_of r j c)
    → (keep_kerb_reply (spread point_numbers (path_in s)) g r j c (length room) ≡ (0, m))
    × (take m (convert_out s g) ≡ take m (keep_kerb_out (spread point_numbers (path_in s)) g r j c room))
