-- After a removal: the table is sound, the key is gone, every other key finds the same bytes. Assumes nothing.
use mathlib.Core.Path.{◌≡◌, refl, sym, ap, ◌∙◌}
use mathlib.Core.Bool.{true, false}
use mathlib.Core.Logic.{◌⊎◌, inl, inr, ⊎_elim}
use mathlib.Core.List.{List}
use Prim.Native.Nat.{ℕ, ◌+◌, ◌*◌, ◌≤◌, ◌<◌}
use native.Mathlib.Nat.{zero-add}
use native.Mathlib.Omega.{arith}
use borrow.Author.Tests.{eqb-true, ne_eqb}
use lib.Dec.{eqb}
use lib.ListN.{length, replicate, length-replicate}
use Rattle.words.specs.Words.{word_from}
use Rattle.replies.specs.Replies.{Reply}
use Rattle.chunk_table.specs.Tables.{entry_count, front_in, key_in, offset_in, size_in, used_at, damaged_in, holds_key, key_entry}
use Rattle.chunks.specs.Calls.{find_reply, remove_reply, remove_out}
use Rattle.chunks.specs.Chunks.{without}
use Rattle.chunk_laws.specs.Theorems.{found_bytes, RemovedIsSound, RemovedIsGone, RemovingKeeps}
use Rattle.chunk_table.proofs.Below.{not_both, test, less_or, same_or, first_only}
use Rattle.chunk_table.proofs.SoundTables.{SoundTable, sound_table, table_sound, empty_used, holds_empty, holds_used}
use Rattle.chunks.proofs.Answered.{reply_damaged, reply_missing, reply_found, kept_chunk, new_chunk, place_here}
use Rattle.chunk_laws.proofs.Entries.{over_count, over_holds, over_part, over_entry, part_same}
use Rattle.chunk_laws.proofs.SoundEntries.{anew_sound}

module _ (c : List ℕ) (key : ℕ) (h : damaged_in c ≡ false) (m : key_entry c key < entry_count c) where
  s : SoundTable c
  s = sound_table c h

  low : front_in c ≤ offset_in c (key_entry c key)
  low = s.low (key_entry c key) m (place_here c key m).0

  -- the entry is empty
  gone : used_at (without c (key_entry c key)) (key_entry c key) ≡ false
  unfolding without word_from
  gone = empty_used (without c (key_entry c key)) (key_entry c key) refl
      (over_entry c (key_entry c key) (offset_in c (key_entry c key)) (replicate (size_in c (key_entry c key)) 0) (replicate 12 0) refl m s.table low (12 + 12 * key_entry c key) 8 (omega arith) (omega arith))

  pub without_sound : SoundTable (without c (key_entry c key))
  unfolding without
  without_sound =
      anew_sound c s (key_entry c key) (offset_in c (key_entry c key)) (replicate (size_in c (key_entry c key)) 0) (replicate 12 0) refl m low
      (λ u. absurd (not_both u gone))

  count : entry_count (without c (key_entry c key)) ≡ entry_count c
  unfolding without
  count = over_count c (key_entry c key) (offset_in c (key_entry c key)) (replicate (size_in c (key_entry c key)) 0) (replicate 12 0) refl m s.table low

  others : (j : ℕ) → j < entry_count c → (j ≡ key_entry c key → ⊥) → (k : ℕ) → holds_key (without c (key_entry c key)) k j ≡ holds_key c k j
  unfolding without
  others j d n k = over_holds c (key_entry c key) (offset_in c (key_entry c key)) (replicate (size_in c (key_entry c key)) 0) (replicate 12 0) refl m s.table low j d n k

  -- another entry in use has another key
  alone : (j : ℕ) → j < entry_count c → (j ≡ key_entry c key → ⊥) → used_at c j ≡ true → key_in c j ≡ key → ⊥
  alone j d n u e =
      let k : key_in c (key_entry c key) ≡ key = eqb-true _ _ (place_here c key m).1 in
      ⊎_elim
      (λ l. s.keys j (key_entry c key) l m u (place_here c key m).0 (e ∙ sym k))
      (λ l. s.keys (key_entry c key) j (⊎_elim (λ t. t) (λ t. absurd (n (omega arith))) (less_or (key_entry c key) j)) d (place_here c key m).0 u (k ∙ sym e))
      (less_or j (key_entry c key))

  holds_not : (j : ℕ) → j < entry_count c → (j ≡ key_entry c key → ⊥) → holds_key c key j ≡ false
  holds_not j d n =
      ⊎_elim
      (λ u. sym (holds_used c j key u) ∙ ne_eqb (key_in c j) key (alone j d n u))
      (λ u. sym (holds_empty c j key u))
      (test (used_at c j))

  pub without_gone : entry_count (without c (key_entry c key)) ≤ key_entry (without c (key_entry c key)) key
  unfolding key_entry
  without_gone =
      let t = without c (key_entry c key) in
      let e : key_entry t key ≡ entry_count t =
      first_only (holds_key t key) 0 (entry_count t) (entry_count t) (entry_count t) (zero-add (entry_count t)) (record {
        from = omega arith;
        upto = omega arith;
        before = λ j a b. ⊎_elim
            (λ e. ap (holds_key t key) e ∙ sym (holds_empty t (key_entry c key) key gone))
            (λ n. let d : j < entry_count c = omega (arith, count) in others j d n key ∙ holds_not j d n)
            (same_or j (key_entry c key));
        here = λ l. absurd (omega arith);
      }) in
      omega (arith, e)

  pub without_keeps : (k : ℕ) → (k ≡ key → ⊥) → found_bytes (without c (key_entry c key)) k ≡ found_bytes c k
  unfolding without
  without_keeps k n =
      let t = without c (key_entry c key) in
      part_same c t k s without_sound count
      (λ j d. ⊎_elim
      (λ e. ap (holds_key t k) e ∙ sym (holds_empty t (key_entry c key) k gone)
      ∙ sym (ap (holds_key c k) e ∙ sym (holds_used c (key_entry c key) k (place_here c key m).0) ∙ ne_eqb (key_in c (key_entry c key)) k (λ g. n (sym g ∙ eqb-true _ _ (place_here c key m).1))))
      (λ o. others j d o k)
      (same_or j (key_entry c key)))
      (λ j d u e.
      let o : j ≡ key_entry c key → ⊥ = λ g. n (sym e ∙ ap (key_in c) g ∙ eqb-true _ _ (place_here c key m).1) in
      over_part c (key_entry c key) (offset_in c (key_entry c key)) (replicate (size_in c (key_entry c key)) 0) (replicate 12 0) refl m s.table low j d o (s.low j d u)
      (stand j d u o))
    where
      stand : (j : ℕ) → j < entry_count c → used_at c j ≡ true → (j ≡ key_entry c key → ⊥) → (offset_in c j + size_in c j ≤ offset_in c (key_entry c key)) ⊎ (offset_in c (key_entry c key) + length {A = ℕ} (replicate (size_in c (key_entry c key)) 0) ≤ offset_in c j)
      stand j d u o =
          let z = length-replicate {A = ℕ} (size_in c (key_entry c key)) 0 in
          ⊎_elim
          (λ l. ⊎_elim (λ t. inl t) (λ t. inr (omega arith)) (s.apart j (key_entry c key) l m u (place_here c key m).0))
          (λ l. ⊎_elim (λ t. inr (omega arith)) (λ t. inl t) (s.apart (key_entry c key) j (⊎_elim (λ t. t) (λ t. absurd (o (omega arith))) (less_or (key_entry c key) j)) d (place_here c key m).0 u))
          (less_or j (key_entry c key))

-- ---- through the call

remove_out_lem : (c : List ℕ) (key : ℕ) → damaged_in c ≡ false → key_entry c key < entry_count c → remove_out c key ≡ without c (key_entry c key)
unfolding remove_out remove_reply
remove_out_lem c key h m = sym (new_chunk (without c (key_entry c key)) c (reply_found c key h m))

remove_same : (c : List ℕ) (key : ℕ) {r : Reply} → find_reply c key ≡ r → eqb r.0 0 ≡ false → remove_out c key ≡ c
unfolding remove_out remove_reply
remove_same c key e h = sym (kept_chunk (without c (key_entry c key)) c e h)

pub removed_is_sound : RemovedIsSound
removed_is_sound c key h =
    ⊎_elim
    (λ m. ap damaged_in (remove_out_lem c key h m) ∙ table_sound _ (without_sound c key h m))
    (λ m. ap damaged_in (remove_same c key (reply_missing c key h m) refl) ∙ h)
    (less_or (key_entry c key) (entry_count c))

pub removed_is_gone : RemovedIsGone
unfolding remove_reply
removed_is_gone c key e =
    ⊎_elim
    (λ h. let z : 14 ≡ 0 = sym (ap (λ (x : Reply). x.0) (reply_damaged c key h)) ∙ e in absurd (omega arith))
    (λ h. ⊎_elim
    (λ m. ap (λ t. find_reply t key) (remove_out_lem c key h m) ∙ reply_missing (without c (key_entry c key)) key (table_sound _ (without_sound c key h m)) (without_gone c key h m))
    (λ m. let z : 16 ≡ 0 = sym (ap (λ (x : Reply). x.0) (reply_missing c key h m)) ∙ e in absurd (omega arith))
    (less_or (key_entry c key) (entry_count c)))
    (test (damaged_in c))

pub removing_keeps : RemovingKeeps
removing_keeps c key k n =
    ⊎_elim
    (λ h. ap (λ t. found_bytes t k) (remove_same c key (reply_damaged c key h) refl))
    (λ h. ⊎_elim
    (λ m. ap (λ t. found_bytes t k) (remove_out_lem c key h m) ∙ without_keeps c key h m k n)
    (λ m. ap (λ t. found_bytes t k) (remove_same c key (reply_missing c key h m) refl))
    (less_or (key_entry c key) (entry_count c)))
    (test (damaged_in c))
