-- Document 02, request 8, theorems over add: what was added is found, other keys keep their bytes, a sound table stays sound.
use Rattle.std.specs.Prelude.{◌≡◌, false, List, ℕ, ◌^◌, ◌<◌}
use Rattle.outline.specs.Stores.{length_in, due_in}
use Rattle.chunk_table.specs.Tables.{damaged_in}
use Rattle.chunks.specs.Calls.{find_reply}
use Rattle.chunk_laws.specs.Theorems.{found_bytes}
use Rattle.chunk_adding.specs.Adding.{own_bytes, add_reply, add_out}

abbrev pub AddedIsSound : Type 0
AddedIsSound = (c : List ℕ) (key : ℕ) (store : List ℕ) → key < 2 ^ 32 → damaged_in c ≡ false → damaged_in (add_out c key store) ≡ false

-- What was added is found: its bytes are the outline's own, unchanged, and those that its vertices and grade give.
abbrev pub AddedIsFound : Type 0
AddedIsFound = (c : List ℕ) (key : ℕ) (store : List ℕ) → key < 2 ^ 32 → (add_reply c key store).0 ≡ 0
    → (find_reply (add_out c key store) key ≡ (0, length_in store))
    × (found_bytes (add_out c key store) key ≡ own_bytes store)
    × (found_bytes (add_out c key store) key ≡ due_in store)

-- Every other key finds the same bytes as before; where they stand may change.
abbrev pub AddingKeeps : Type 0
AddingKeeps = (c : List ℕ) (key : ℕ) (store : List ℕ) (k : ℕ) → key < 2 ^ 32 → (k ≡ key → ⊥) → found_bytes (add_out c key store) k ≡ found_bytes c k
