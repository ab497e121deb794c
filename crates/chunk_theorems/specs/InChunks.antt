-- Document 02, request 8: a vertex of an outline in a chunk replaced by lending only its entry's own bytes, as find gives them.
use Rattle.std.specs.Prelude.{◌≡◌, false, List, ℕ, ◌+◌, ◌≤◌, ◌<◌, length}
use Rattle.runs.specs.Runs.{over, put}
use Rattle.outline.specs.Stores.{path_in, body_bytes_in}
use Rattle.locality.specs.Local.{reach_of}
use Rattle.editing.specs.Replacing.{replace_reply, replace_out}
use Rattle.chunk_table.specs.Tables.{damaged_in}
use Rattle.chunks.specs.Calls.{find_reply, find_offset}
use Rattle.chunk_laws.specs.Theorems.{found_bytes}
use Rattle.contacts.specs.declared.Vertex.{Vertex}

-- the chunk after replace was lent the bytes that find gives for a key, and these alone
unfoldable pub replaced_in : List ℕ → ℕ → ℕ → Vertex → List ℕ
replaced_in c key i v = over put c (find_offset c key) (replace_out (found_bytes c key) i v)

-- Whatever replace answers, the table stays sound, every key is found where it was, this one has the bytes that replace leaves, and every other its
-- old ones.
abbrev pub OthersKept : Type 0
OthersKept = (c : List ℕ) (key i : ℕ) (v : Vertex) → (find_reply c key).0 ≡ 0
    → (damaged_in (replaced_in c key i v) ≡ false)
    × ((k : ℕ) → find_reply (replaced_in c key i v) k ≡ find_reply c k)
    × ((k : ℕ) → find_offset (replaced_in c key i v) k ≡ find_offset c k)
    × (found_bytes (replaced_in c key i v) key ≡ replace_out (found_bytes c key) i v)
    × ((k : ℕ) → (k ≡ key → ⊥) → found_bytes (replaced_in c key i v) k ≡ found_bytes c k)

-- Demand 3 for each outline of a chunk: in the bytes that find gives for the key those of each body before i stay as they were; and so do those of
-- each body after j, the closing one too, unless j is the last vertex.
abbrev pub BodiesKept : Type 0
BodiesKept = (c : List ℕ) (key i : ℕ) (v : Vertex) → (find_reply c key).0 ≡ 0 → (replace_reply (found_bytes c key) i v).0 ≡ 0
    → ((b : ℕ) → b < i → body_bytes_in (found_bytes (replaced_in c key i v) key) b ≡ body_bytes_in (found_bytes c key) b)
    × (reach_of (path_in (found_bytes c key)) i + 1 < length (path_in (found_bytes c key))
    → (b : ℕ) → reach_of (path_in (found_bytes c key)) i < b → b ≤ length (path_in (found_bytes c key))
    → body_bytes_in (found_bytes (replaced_in c key i v) key) b ≡ body_bytes_in (found_bytes c key) b)
