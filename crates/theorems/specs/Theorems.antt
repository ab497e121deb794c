-- Theorems over several calls: what is kept is read back, what is replaced is what keep writes, and how far a change reaches in bytes.
use Rattle.std.specs.Prelude.{◌≡◌, List, ◌++◌, ℕ, ◌+◌, ◌-◌, ◌≤◌, ◌<◌, ℤ, pos, length, take, drop, set, replicate}
use Rattle.paths.specs.Paths.{path_of, path_numbers}
use Rattle.locality.specs.Local.{reach_of}
use Rattle.contacts.specs.declared.Vertex.{Vertex}
use Rattle.outline.specs.Stores.{form_in, grade_in, length_in, path_in, posts_in, body_bytes_in}
use Rattle.outline.specs.Outlines.{outline_bytes}
use Rattle.outline.specs.Theorems.{Suits}
use Rattle.outline.specs.declared.Edition.TheVariants.{Second}
use Rattle.outline.specs.declared.Form.TheVariants.{Stroke, Kerb}
use Rattle.kerb.specs.Styles.{style_of}
use Rattle.kerb_paths.specs.Points.{kerb_path}
use Rattle.kerb_keeping.specs.KerbKeeping.{keep_kerb_reply, keep_kerb_out}
use Rattle.keeping.specs.Keeping.{keep_reply, keep_out, plain_posts}
use Rattle.reading.specs.Reading.{read_reply, read_grade, read_form, read_out}
use Rattle.reading.specs.PostsReading.{posts_reply, posts_out}
use Rattle.editing.specs.Replacing.{replace_reply, replace_out}
use Rattle.reaching.specs.Replies.{reach_reply}

-- What keep wrote, read accepts and gives back, number for number, with the grade, as a stroke's of edition 2.
abbrev pub KeepRead : Type 0
KeepRead = (path : List ℤ) (ps : List ℕ) (g : ℕ) (out : List ℕ) (room : List ℤ) → Suits (Stroke Second) ps (path_of path) → (keep_reply path ps g (length out)).0 ≡ 0 → length path ≤ length room
    → (read_reply (keep_out path ps g out) (length room) ≡ (0, length (path_of path)))
    × (read_grade (keep_out path ps g out) (length room) ≡ g)
    × (read_form (keep_out path ps g out) (length room) ≡ Stroke Second)
    × (read_out (keep_out path ps g out) room ≡ path ++ drop (length path) room)

-- Document 02, request 11: and the call like it gives the posts back.
abbrev pub KeepPostsRead : Type 0
KeepPostsRead = (path : List ℤ) (ps : List ℕ) (g : ℕ) (out room : List ℕ) → Suits (Stroke Second) ps (path_of path) → (keep_reply path ps g (length out)).0 ≡ 0 → length (path_of path) ≤ length room
    → (posts_reply (keep_out path ps g out) (length room) ≡ (0, length (path_of path)))
    × (posts_out (keep_out path ps g out) room ≡ ps ++ drop (length ps) room)

-- A path that comes without point numbers has posts that suit it.
abbrev pub PlainSuits : Type 0
PlainSuits = (path : List ℤ) → Suits (Stroke Second) (plain_posts path) (path_of path)

-- Document 02, request 3: and so of a kerb, with its radius, join and closed.
abbrev pub KeepKerbRead : Type 0
KeepKerbRead = (l : List ℤ) (g r j c : ℕ) (out : List ℕ) (room : List ℤ) → (keep_kerb_reply l g r j c (length out)).0 ≡ 0 → length l ≤ length room
    → (read_reply (keep_kerb_out l g r j c out) (length room) ≡ (0, length (kerb_path (pos r) l)))
    × (read_grade (keep_kerb_out l g r j c out) (length room) ≡ g)
    × (read_form (keep_kerb_out l g r j c out) (length room) ≡ Kerb (style_of r j c))
    × (read_out (keep_kerb_out l g r j c out) room ≡ l ++ drop (length l) room)

-- A kerb's points, radius, join, closed and grade keep to one outline: what was kept in one room is kept in any other that holds it, in the same bytes.
abbrev pub OneKerbOutlineKept : Type 0
OneKerbOutlineKept = (l : List ℤ) (g r j c m : ℕ) (a b : List ℕ) → keep_kerb_reply l g r j c (length a) ≡ (0, m) → m ≤ length b
    → (keep_kerb_reply l g r j c (length b) ≡ (0, m))
    × (take m (keep_kerb_out l g r j c b) ≡ take m (keep_kerb_out l g r j c a))

-- A store in which a vertex was replaced begins with the outline of the path with that vertex, in the store's edition and with every post; in edition 2
-- those are the bytes that keep writes; then come zeros up to the old end; and past both the store is as it was. Here m is the new outline's length,
-- and z how many zeros there are.
abbrev pub ReplacedIsKept : Type 0
ReplacedIsKept = (s : List ℕ) (k : ℕ) (v : Vertex) (room : List ℕ) (m z : ℕ) → replace_reply s k v ≡ (0, m) → z ≡ length_in s - m → m ≤ length room
    → (take m (replace_out s k v) ≡ outline_bytes (form_in s) (grade_in s) (posts_in s) (set (path_in s) k v))
    × (form_in s ≡ Stroke Second
    → (keep_reply (path_numbers (set (path_in s) k v)) (posts_in s) (grade_in s) (length room) ≡ (0, m))
    × (take m (replace_out s k v) ≡ take m (keep_out (path_numbers (set (path_in s) k v)) (posts_in s) (grade_in s) room)))
    × (take z (drop m (replace_out s k v)) ≡ replicate z 0)
    × (drop (m + z) (replace_out s k v) ≡ drop (m + z) s)

-- Demand 3 over the bytes of the store before and after: those of each body before k stay as they were; and so do those of each body after j, the
-- closing one too, unless j is the last vertex.
abbrev pub BytesKept : Type 0
BytesKept = (s : List ℕ) (k : ℕ) (v : Vertex) → (replace_reply s k v).0 ≡ 0
    → ((i : ℕ) → i < k → body_bytes_in (replace_out s k v) i ≡ body_bytes_in s i)
    × (reach_of (path_in s) k + 1 < length (path_in s) → (i : ℕ) → reach_of (path_in s) k < i → i ≤ length (path_in s) → body_bytes_in (replace_out s k v) i ≡ body_bytes_in s i)

-- Demand 3 by the number j that the call gives: where a vertex k is then replaced, the bytes of each body before k stay as they were; and so do those
-- of each body after j, the closing one too, unless j is the last vertex or there is none.
abbrev pub NumberKeeps : Type 0
NumberKeeps = (s : List ℕ) (k j : ℕ) (v : Vertex) → reach_reply s k ≡ (0, j) → (replace_reply s k v).0 ≡ 0
    → ((i : ℕ) → i < k → body_bytes_in (replace_out s k v) i ≡ body_bytes_in s i)
    × (j + 1 < length (path_in s) → (i : ℕ) → j < i → i ≤ length (path_in s) → body_bytes_in (replace_out s k v) i ≡ body_bytes_in s i)
