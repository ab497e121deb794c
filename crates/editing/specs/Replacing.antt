-- Document 01, "Replies, tested in this order": replace, its answer, its promise, and how far a replacement reaches. Its rows 12, 3 and 18 are
-- document 02's, requests 3, 13 and 9, and its editions and posts request 11.
use Rattle.std.specs.Prelude.{true, List, ◌∷◌, ◌++◌, ℕ, ◌+◌, ◌-◌, ◌≤◌, ◌<◌, length, drop, set, replicate, take, ◌≡◌, Result}
use Rattle.contacts.specs.Limits.{allowed_of}
use Rattle.contacts.specs.declared.Vertex.{Vertex}
use Rattle.paths.specs.Paths.{edges_of}
use Rattle.outline.specs.Outlines.{outline_bytes}
use Rattle.outline.specs.Theorems.{Formed}
use Rattle.outline.specs.Stores.{form_in, grade_in, length_in, path_in, posts_in, sound_of, bodies_in}
use Rattle.outline.specs.declared.Edition.{Edition}
use Rattle.outline.specs.declared.Form.TheVariants.{Stroke}
use Rattle.replies.specs.Replies.{Reply, first_row, draw_grade_row, index_row, new_row, written}
use Rattle.keeping.specs.Keeping.{write_rows}
use Rattle.locality.specs.Local.{reach_of}
use Rattle.replies.specs.Refusals.{reply_of}
use Rattle.replies.specs.declared.Refusal.{Refusal}
use Rattle.heading.specs.StoreRows.{store_rows}
use Rattle.checking.specs.OtherKind.{other_kind_row}

-- ---- replace a vertex: the outline of the path with v at k, in the store's own edition and with its own posts

unfoldable pub replaced_of : List ℕ → ℕ → Vertex → List ℕ
replaced_of s k v = outline_bytes (form_in s) (grade_in s) (posts_in s) (set (path_in s) k v)

unfoldable pub replace_reply : List ℕ → ℕ → Vertex → Reply
replace_reply s k v =
    first_row
    (store_rows s ++ (other_kind_row s ∷ draw_grade_row (grade_in s) ∷ index_row (length (path_in s)) k ∷ new_row v k ∷ write_rows (form_in s) (grade_in s) (posts_in s) (set (path_in s) k v) (length s)))
    (0, length (replaced_of s k v))

-- A replaced outline that shrank is followed by zeros up to its old end.
unfoldable pub replace_out : List ℕ → ℕ → Vertex → List ℕ
replace_out s k v =
    let made = replaced_of s k v in
    written (replace_reply s k v) (made ++ replicate (length_in s - length made) 0) s

pub record Replaces (store₀ : List ℕ) (index : ℕ) (v : Vertex) (answer : Result ℕ Refusal) (store₁ : List ℕ) : Type 0 where
  pub reply : reply_of answer ≡ replace_reply store₀ index v
  pub store : store₁ ≡ replace_out store₀ index v

-- An outline of grade 2 or above, whatever bytes stand after it, takes any vertex within the limits in place of one of its own, where at least one edge is
-- left and there is room for the outline with it.
abbrev pub KeptIsReplaced : Type 0
KeptIsReplaced = (e : Edition) (g : ℕ) (ps : List ℕ) (vs : List Vertex) (rest : List ℕ) (k : ℕ) (v : Vertex) → Formed (Stroke e) g ps vs → 2 ≤ g → k < length vs → allowed_of v ≡ true
    → 0 < length (edges_of g (set vs k v)) → length (outline_bytes (Stroke e) g ps (set vs k v)) ≤ length (outline_bytes (Stroke e) g ps vs ++ rest)
    → replace_reply (outline_bytes (Stroke e) g ps vs ++ rest) k v ≡ (0, length (outline_bytes (Stroke e) g ps (set vs k v)))

-- A store in which a vertex was replaced is sound again, with the same grade and the path with that vertex, and of the same form, with the same posts.
abbrev pub ReplacedIsSound : Type 0
ReplacedIsSound = (s : List ℕ) (k : ℕ) (v : Vertex) → (replace_reply s k v).0 ≡ 0
    → (grade_in (replace_out s k v) ≡ grade_in s)
    × (path_in (replace_out s k v) ≡ set (path_in s) k v)
    × (sound_of (replace_out s k v) ≡ true)
    × (form_in (replace_out s k v) ≡ form_in s)
    × (posts_in (replace_out s k v) ≡ posts_in s)

abbrev pub OneReplacing : Type 0
OneReplacing = (s : List ℕ) (k : ℕ) (v : Vertex) (r q : Result ℕ Refusal) (o p : List ℕ) → Replaces s k v r o → Replaces s k v q p → (r ≡ q) × (o ≡ p)

-- Demand 3 of a store: the bodies before k stay as they were, and so do those after j, the first vertex from k + 2 on that a drawn or broken step
-- reaches, with the closing one, unless j is the last vertex.
abbrev pub StoreKept : Type 0
StoreKept = (s : List ℕ) (k : ℕ) (v : Vertex) → (replace_reply s k v).0 ≡ 0
    → (take k (bodies_in (replace_out s k v)) ≡ take k (bodies_in s))
    × (reach_of (path_in s) k + 1 < length (path_in s) → drop (reach_of (path_in s) k + 1) (bodies_in (replace_out s k v)) ≡ drop (reach_of (path_in s) k + 1) (bodies_in s))
