-- Replace leaves as many bytes as it was lent, so it writes inside the entry's own; what is known of it then holds of them. Assumes nothing.
use mathlib.Core.Path.{◌≡◌, sym, ap, ◌∙◌}
use mathlib.Core.Bool.{true, false}
use mathlib.Core.Logic.{◌⊎◌, inl, inr, ⊎_elim}
use mathlib.Core.List.{List, ◌++◌}
use Prim.Native.Nat.{ℕ, ◌+◌, ◌-◌, ◌≤◌}
use native.Mathlib.Omega.{arith}
use borrow.Author.Tests.{ltb-false, eqb-true}
use lib.Dec.{eqb}
use lib.ListN.{length, drop, replicate, length-append, length-replicate, length-drop}
use Rattle.contacts.specs.declared.Vertex.{Vertex}
use Rattle.replies.specs.Replies.{Reply, room_row, written}
use Rattle.outline.specs.Stores.{length_in, body_bytes_in}
use Rattle.editing.specs.Replacing.{replaced_of, replace_reply, replace_out}
use Rattle.keeping.specs.Keeping.{write_rows}
use Rattle.chunk_table.specs.Tables.{entry_count, key_entry, offset_in, size_in, damaged_in}
use Rattle.chunks.specs.Calls.{find_reply}
use Rattle.chunks.specs.Chunks.{part_in}
use Rattle.chunk_laws.specs.Theorems.{found_bytes}
use Rattle.chunk_theorems.specs.InChunks.{replaced_in, OthersKept, BodiesKept}
use Rattle.checking.proofs.StorePassed.{passed_long}
use Rattle.editing.proofs.Changed.{replace_none}
use Rattle.theorems.proofs.ThroughCalls.{bytes_kept}
use Rattle.chunk_table.proofs.Below.{test, less_or}
use Rattle.chunk_table.proofs.SoundTables.{sound_table}
use Rattle.chunks.proofs.Answered.{reply_damaged, reply_missing, reply_found, place_here}
use Rattle.chunks.proofs.Laid.{part_length_lem}
use Rattle.chunk_laws.proofs.AfterWriting.{written_inside}
use Rattle.chunk_laws.proofs.Entries.{part_found}

-- ---- replace leaves as many bytes as it was lent

fits_length : (made s : List ℕ) → length made ≤ length s → length (made ++ drop (length made) s) ≡ length s
fits_length made s h = omega (arith, length-append made (drop (length made) s), length-drop (length made) s)

replaced_fits : (s : List ℕ) (i : ℕ) (v : Vertex) → (replace_reply s i v).0 ≡ 0 → length (replaced_of s i v ++ replicate (length_in s - length (replaced_of s i v)) 0) ≤ length s
unfolding write_rows room_row replaced_of
replaced_fits s i v h =
    let r = replace_none s i v h in
    let new = replaced_of s i v in
    let a : length_in s ≤ length s = passed_long s r.0 in
    let b : length new ≤ length s = ltb-false _ _ r.1.1.1.1.1.1.0 in
    omega (arith, length-append new (replicate (length_in s - length new) 0), length-replicate {A = ℕ} (length_in s - length new) 0)

pub replaced_length : (s : List ℕ) (i : ℕ) (v : Vertex) → length (replace_out s i v) ≡ length s
unfolding replace_out written
replaced_length s i v = pick (test (eqb (replace_reply s i v).0 0))
  where
    made : List ℕ
    made = replaced_of s i v ++ replicate (length_in s - length (replaced_of s i v)) 0

    pick : (eqb (replace_reply s i v).0 0 ≡ true) ⊎ (eqb (replace_reply s i v).0 0 ≡ false) → length (replace_out s i v) ≡ length s
    pick (inl e) = rw (e, written) (fits_length made s (replaced_fits s i v (eqb-true _ _ e)))
    pick (inr e) = rw (e, written)

-- ---- the bytes that find gives are as many as it says

found_length : (c : List ℕ) (key : ℕ) → (find_reply c key).0 ≡ 0 → find_reply c key ≡ (0, length (found_bytes c key))
unfolding part_in
found_length c key e =
    ⊎_elim
    (λ h. let z : ◌≡◌ {A = ℕ} 14 0 = ap (λ (x : Reply). x.0) (sym (reply_damaged c key h)) ∙ e in absurd (omega arith))
    (λ h. ⊎_elim
    (λ m.
    let j = key_entry c key in
    let l : length (found_bytes c key) ≡ size_in c j =
    ap length (part_found c key h m) ∙ part_length_lem c (offset_in c j) (size_in c j) ((sound_table c h).high j m (place_here c key m).0) in
    reply_found c key h m ∙ ap (λ (n : ℕ). (0, n)) (sym l))
    (λ m. let z : ◌≡◌ {A = ℕ} 16 0 = ap (λ (x : Reply). x.0) (sym (reply_missing c key h m)) ∙ e in absurd (omega arith))
    (less_or (key_entry c key) (entry_count c)))
    (test (damaged_in c))

-- ---- the theorems

pub others_kept : OthersKept
unfolding replaced_in
others_kept c key i v e = written_inside c key (replace_out (found_bytes c key) i v) (found_length c key e ∙ ap (λ (n : ℕ). (0, n)) (sym (replaced_length (found_bytes c key) i v)))

pub bodies_kept : BodiesKept
bodies_kept c key i v e h =
    let o = (others_kept c key i v e).3 in
    let b = bytes_kept (found_bytes c key) i v h in (
      λ n l. ap (λ (s : List ℕ). body_bytes_in s n) o ∙ b.0 n l,
      λ far n l m. ap (λ (s : List ℕ). body_bytes_in s n) o ∙ b.1 far n l m,
    )
