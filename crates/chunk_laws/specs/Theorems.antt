-- Document 02, request 8, theorems over the definitions: what is put is found, other keys keep their bytes, a sound table stays sound.
use Rattle.std.specs.Prelude.{◌≡◌, true, false, List, [], ℕ, ◌^◌, ◌<◌, eqb, length, take, drop}
use Rattle.runs.specs.Runs.{over, put}
use Rattle.chunk_table.specs.Tables.{damaged_in}
use Rattle.chunks.specs.Calls.{make_reply, make_out, find_reply, find_offset, remove_reply, remove_out, compact_out, put_reply, put_out}

-- The bytes that find gives for a key; none where it is refused.
unfoldable pub found_bytes : List ℕ → ℕ → List ℕ
found_bytes c key = elim (eqb (find_reply c key).0 0) [ true ↦ take (find_reply c key).1 (drop (find_offset c key) c) | false ↦ [] ]

-- A sound table stays sound in every call.
abbrev pub MadeIsSound : Type 0
MadeIsSound = (c : List ℕ) (n : ℕ) → (make_reply c n).0 ≡ 0 → damaged_in (make_out c n) ≡ false

abbrev pub RemovedIsSound : Type 0
RemovedIsSound = (c : List ℕ) (key : ℕ) → damaged_in c ≡ false → damaged_in (remove_out c key) ≡ false

abbrev pub CompactedIsSound : Type 0
CompactedIsSound = (c : List ℕ) → damaged_in c ≡ false → damaged_in (compact_out c) ≡ false

abbrev pub PutIsSound : Type 0
PutIsSound = (c : List ℕ) (key : ℕ) (made : List ℕ) → key < 2 ^ 32 → damaged_in c ≡ false → damaged_in (put_out c key made) ≡ false

-- What was put is found, its bytes unchanged.
abbrev pub PutIsFound : Type 0
PutIsFound = (c : List ℕ) (key : ℕ) (made : List ℕ) → key < 2 ^ 32 → 0 < length made → damaged_in c ≡ false → (put_reply c key (length made)).0 ≡ 0
    → (find_reply (put_out c key made) key ≡ (0, length made))
    × (found_bytes (put_out c key made) key ≡ made)

-- What was removed is not there.
abbrev pub RemovedIsGone : Type 0
RemovedIsGone = (c : List ℕ) (key : ℕ) → (remove_reply c key).0 ≡ 0 → find_reply (remove_out c key) key ≡ (16, key)

-- Every other key finds the same bytes as before; where they stand may change.
abbrev pub RemovingKeeps : Type 0
RemovingKeeps = (c : List ℕ) (key k : ℕ) → (k ≡ key → ⊥) → found_bytes (remove_out c key) k ≡ found_bytes c k

abbrev pub CompactingKeeps : Type 0
CompactingKeeps = (c : List ℕ) (k : ℕ) → found_bytes (compact_out c) k ≡ found_bytes c k

abbrev pub PuttingKeeps : Type 0
PuttingKeeps = (c : List ℕ) (key : ℕ) (made : List ℕ) (k : ℕ) → key < 2 ^ 32 → damaged_in c ≡ false → (k ≡ key → ⊥) → found_bytes (put_out c key made) k ≡ found_bytes c k

-- As many bytes written over those that find gives for a key: the table stays sound, every key is found where it was, this one has the new bytes
-- and every other its old ones. So an outline may be changed in the bytes of its own entry, lent alone.
abbrev pub WrittenInside : Type 0
WrittenInside = (c : List ℕ) (key : ℕ) (new : List ℕ) → find_reply c key ≡ (0, length new)
    → (damaged_in (over put c (find_offset c key) new) ≡ false)
    × ((k : ℕ) → find_reply (over put c (find_offset c key) new) k ≡ find_reply c k)
    × ((k : ℕ) → find_offset (over put c (find_offset c key) new) k ≡ find_offset c k)
    × (found_bytes (over put c (find_offset c key) new) key ≡ new)
    × ((k : ℕ) → (k ≡ key → ⊥) → found_bytes (over put c (find_offset c key) new) k ≡ found_bytes c k)
