-- What each return of a call answers. Assumes nothing.
use Rattle.std.specs.Prelude.{Option, Some, None, MatchOption, is_some, Ok, Err}
use mathlib.Core.Path.{◌≡◌, refl, sym, ap, ◌∙◌}
use mathlib.Core.Bool.{true, false}
use mathlib.Core.List.{List, ◌++◌}
use Prim.Native.Nat.{ℕ, ◌+◌, ◌*◌, ◌≤◌, ◌<◌}
use native.Mathlib.Nat.{zero-add}
use native.Mathlib.Omega.{arith}
use borrow.Author.Tests.{lt-ltb, le-ltb, le-leb, lt-leb}
use lib.Dec.{eqb}
use lib.ListN.{length, drop, replicate, length-append, length-replicate}
use Rattle.runs.specs.Runs.{over, put}
use Rattle.words.specs.Words.{four_bytes}
use Rattle.replies.specs.Replies.{Reply, first_row, room_row}
use Rattle.chunk_table.specs.Tables.{table_bytes, entry_count, key_in, offset_in, size_in, used_at, damaged_in, holds_key, key_entry, empty_entry}
use Rattle.chunks.specs.Answers.{reply_of_found, offset_of_found, MakesChunk, FindsKey, RemovesKey, CompactsChunk, PutsOutline}
use Rattle.chunks.specs.Calls.{table_row, make_row, missing_row, changed, make_reply, make_out, find_reply, find_offset, remove_reply, remove_out, compact_reply, compact_out, there_row, full_row, packed_row, put_rows, put_reply, put_out, added_in}
use Rattle.chunks.specs.Chunks.{without, gap_in, end_in, compacted_of}
use Rattle.runs.proofs.Laws.{over-append}
use Rattle.runs.proofs.Written.{over_whole}
use Rattle.replies.proofs.Rows.{refused_written, done_written}
use Rattle.chunk_table.proofs.Below.{first_told, and_parts}
use Rattle.replies.specs.declared.Refusal.TheVariants.{NoRoom, Damaged, KeyThere, KeyMissing, TableFull}
use Rattle.chunks.specs.declared.part.Part.{Part}

-- ---- looked up

pub found_some : (k m n : ℕ) (r : Option ℕ) → MatchOption r (k ≡ m) (λ i. (i ≡ k) × (i < n)) → is_some r ≡ true → k < n
found_some k m n None h e = cc
found_some k m n (Some i) h e = omega (arith, h.0, h.1)

pub found_none : (k m n : ℕ) (r : Option ℕ) → MatchOption r (k ≡ m) (λ i. (i ≡ k) × (i < n)) → is_some r ≡ false → k ≡ m
found_none k m n None h e = h
found_none k m n (Some i) h e = cc

-- ---- find

module _ (c : List ℕ) (key : ℕ) where
  pub reply_damaged : damaged_in c ≡ true → find_reply c key ≡ (14, 0)
  unfolding find_reply first_row table_row
  reply_damaged h = rw (h, first_row)

  pub reply_missing : damaged_in c ≡ false → entry_count c ≤ key_entry c key → find_reply c key ≡ (16, key)
  unfolding find_reply first_row table_row missing_row
  reply_missing h m = rw (h, first_row, le-leb (entry_count c) (key_entry c key) m, first_row)

  pub reply_found : damaged_in c ≡ false → key_entry c key < entry_count c → find_reply c key ≡ (0, size_in c (key_entry c key))
  unfolding find_reply first_row table_row missing_row
  reply_found h m = rw (h, first_row, lt-leb (entry_count c) (key_entry c key) m, first_row)

  pub offset_none : {r : Reply} → find_reply c key ≡ r → eqb r.0 0 ≡ false → 0 ≡ find_offset c key
  unfolding find_offset
  offset_none e h = let z : eqb (find_reply c key).0 0 ≡ false = ap (λ (x : Reply). eqb x.0 0) e ∙ h in rw (z, find_offset)

  pub offset_some : {n : ℕ} → find_reply c key ≡ (0, n) → offset_in c (key_entry c key) ≡ find_offset c key
  unfolding find_offset
  offset_some e = let z : eqb (find_reply c key).0 0 ≡ true = ap (λ (x : Reply). eqb x.0 0) e in rw (z, find_offset)

  pub find_damaged : damaged_in c ≡ true → FindsKey c key (Err Damaged)
  unfolding reply_of_found offset_of_found
  find_damaged h = record { reply = sym (reply_damaged h); offset = offset_none (reply_damaged h) refl }

  pub find_missing : damaged_in c ≡ false → key_entry c key ≡ entry_count c → FindsKey c key (Err (KeyMissing key))
  unfolding reply_of_found offset_of_found
  find_missing h e =
      let r = reply_missing h (omega arith) in
      record { reply = sym r; offset = offset_none r refl }

  pub find_found : {i n : ℕ} {p : Part} → damaged_in c ≡ false → i ≡ key_entry c key → i < n → n ≡ entry_count c → p.offset ≡ offset_in c i → p.size ≡ size_in c i → FindsKey c key (Ok p)
  unfolding reply_of_found offset_of_found
  find_found h e l en eo ez =
      let r = reply_found h (omega arith) in
      record { reply = ap (λ k. (0, k)) (ez ∙ ap (size_in c) e) ∙ sym r; offset = eo ∙ ap (offset_in c) e ∙ offset_some r }

-- ---- a chunk after a refusal, and after 0

pub kept_chunk : {r q : Reply} (made c : List ℕ) → r ≡ q → eqb q.0 0 ≡ false → c ≡ changed r made c
unfolding changed
kept_chunk {r} {q} made c e h = let z : eqb r.0 0 ≡ false = ap (λ (x : Reply). eqb x.0 0) e ∙ h in rw (z, changed)

pub new_chunk : {r : Reply} {n : ℕ} (made c : List ℕ) → r ≡ (0, n) → made ≡ changed r made c
unfolding changed
new_chunk {r} made c e = let z : eqb r.0 0 ≡ true = ap (λ (x : Reply). eqb x.0 0) e in rw (z, changed)

-- ---- make

module _ (c : List ℕ) (n : ℕ) where
  make_refused : make_reply c n ≡ (14, 0) → MakesChunk c n (Err Damaged) c
  unfolding make_out
  make_refused e = record { reply = sym e; chunk = refused_written Damaged _ c (sym e) }

  pub make_long : 4294967295 < length c → MakesChunk c n (Err Damaged) c
  unfolding make_reply first_row make_row
  make_long h = make_refused (rw (lt-ltb 4294967295 (length c) h))

  pub make_many : length c ≤ 4294967295 → 1024 < n → MakesChunk c n (Err Damaged) c
  unfolding make_reply first_row make_row
  make_many a h = make_refused (rw (le-ltb 4294967295 (length c) a, lt-ltb 1024 n h))

  pub make_past : length c ≤ 4294967295 → n ≤ 1024 → length c < table_bytes n → MakesChunk c n (Err Damaged) c
  unfolding make_reply first_row make_row
  make_past a b h = make_refused (rw (le-ltb 4294967295 (length c) a, le-ltb 1024 n b, lt-ltb (length c) (table_bytes n) h))

  pub table_laid : table_bytes n ≤ length c → over put (over put c 0 (four_bytes n)) 4 (replicate (12 * n) 0) ≡ (four_bytes n ++ replicate (12 * n) 0) ++ drop (length (four_bytes n ++ replicate (12 * n) 0)) c
  unfolding four_bytes
  table_laid h =
      over-append put c 0 (four_bytes n) (replicate (12 * n) 0)
      ∙ over_whole c (four_bytes n ++ replicate (12 * n) 0) (omega (arith, length-append (four_bytes n) (replicate (12 * n) 0), length-replicate {A = ℕ} (12 * n) 0))

  pub make_done : {c₁ c₂ : List ℕ} → length c ≤ 4294967295 → n ≤ 1024 → table_bytes n ≤ length c → c₁ ≡ over put c 0 (four_bytes n) → c₂ ≡ over put c₁ 4 (replicate (12 * n) 0)
      → MakesChunk c n (Ok (table_bytes n)) c₂
  unfolding make_reply make_out first_row make_row
  make_done a b d e f =
      let r : make_reply c n ≡ (0, table_bytes n) = rw (le-ltb 4294967295 (length c) a, le-ltb 1024 n b, le-ltb (length c) (table_bytes n) d) in
      record { reply = sym r; chunk = f ∙ ap (λ s. over put s 4 (replicate (12 * n) 0)) e ∙ table_laid d ∙ done_written (table_bytes n) _ c (sym r) }

-- ---- remove

-- where a key is found its entry is in use, and has the key
pub place_here : (c : List ℕ) (key : ℕ) → key_entry c key < entry_count c → (used_at c (key_entry c key) ≡ true) × (eqb (key_in c (key_entry c key)) key ≡ true)
unfolding key_entry holds_key
place_here c key h = and_parts (used_at c (key_entry c key)) _ ((first_told (holds_key c key) 0 (entry_count c) (entry_count c) (zero-add (entry_count c))).here h)

module _ (c : List ℕ) (key : ℕ) where
  remove_refused : {r : Reply} → find_reply c key ≡ r → eqb r.0 0 ≡ false → c ≡ remove_out c key
  unfolding remove_out remove_reply
  remove_refused e h = kept_chunk _ c e h

  pub remove_damaged : damaged_in c ≡ true → RemovesKey c key (Err Damaged) c
  unfolding remove_reply
  remove_damaged h = record { reply = sym (reply_damaged c key h); chunk = remove_refused (reply_damaged c key h) refl }

  pub remove_missing : damaged_in c ≡ false → key_entry c key ≡ entry_count c → RemovesKey c key (Err (KeyMissing key)) c
  unfolding remove_reply
  remove_missing h e =
      let r = reply_missing c key h (omega arith) in
      record { reply = sym r; chunk = remove_refused r refl }

  pub remove_found : {i n z : ℕ} {c₁ : List ℕ} → damaged_in c ≡ false → i ≡ key_entry c key → i < n → n ≡ entry_count c → z ≡ size_in c i → c₁ ≡ without c i → RemovesKey c key (Ok z) c₁
  unfolding remove_reply remove_out
  remove_found h e l en ez ec =
      let r = reply_found c key h (omega arith) in
      record { reply = ap (λ k. (0, k)) (ez ∙ ap (size_in c) e) ∙ sym r; chunk = ec ∙ ap (without c) e ∙ new_chunk _ c r }

  -- the entry found is in use
  pub place_used : {i n : ℕ} → i ≡ key_entry c key → i < n → n ≡ entry_count c → used_at c i ≡ true
  place_used e l en = ap (used_at c) e ∙ (place_here c key (omega arith)).0

-- ---- compact

module _ (c : List ℕ) where
  pub compact_damaged : damaged_in c ≡ true → CompactsChunk c (Err Damaged) c
  unfolding compact_reply compact_out first_row table_row
  compact_damaged h =
      let r : compact_reply c ≡ (14, 0) = rw (h, first_row) in
      record { reply = sym r; chunk = kept_chunk (compacted_of c) c r refl }

  pub compact_done : {e : ℕ} {c₁ : List ℕ} → damaged_in c ≡ false → e ≡ end_in c → c₁ ≡ compacted_of c → CompactsChunk c (Ok e) c₁
  unfolding compact_reply compact_out first_row table_row
  compact_done h ee ec =
      let r : compact_reply c ≡ (0, end_in c) = rw (h, first_row) in
      record { reply = ap (λ n. (0, n)) ee ∙ sym r; chunk = ec ∙ new_chunk (compacted_of c) c r }

-- ---- add

module _ (c : List ℕ) (key : ℕ) where
  pub put_reply_there : (n : ℕ) → key_entry c key < entry_count c → put_reply c key n ≡ (15, key)
  unfolding put_reply put_rows first_row there_row
  put_reply_there n h = rw (lt-ltb (key_entry c key) (entry_count c) h, first_row)

  pub put_reply_full : (n : ℕ) → entry_count c ≤ key_entry c key → entry_count c ≤ empty_entry c → put_reply c key n ≡ (17, entry_count c)
  unfolding put_reply put_rows first_row there_row full_row
  put_reply_full n h f = rw (le-ltb (key_entry c key) (entry_count c) h, first_row, le-leb (entry_count c) (empty_entry c) f, first_row)

  pub put_reply_room : (n : ℕ) → entry_count c ≤ key_entry c key → empty_entry c < entry_count c → length c < end_in c + n → put_reply c key n ≡ (5, n)
  unfolding put_reply put_rows first_row there_row full_row packed_row room_row
  put_reply_room n h f r = rw (le-ltb (key_entry c key) (entry_count c) h, first_row, lt-leb (entry_count c) (empty_entry c) f, first_row, lt-ltb (length c) (end_in c + n) r, first_row)

  pub put_reply_done : (n : ℕ) → entry_count c ≤ key_entry c key → empty_entry c < entry_count c → end_in c + n ≤ length c → put_reply c key n ≡ (0, n)
  unfolding put_reply put_rows first_row there_row full_row packed_row room_row
  put_reply_done n h f r = rw (le-ltb (key_entry c key) (entry_count c) h, first_row, lt-leb (entry_count c) (empty_entry c) f, first_row, le-ltb (length c) (end_in c + n) r, first_row)

  module _ (made : List ℕ) where
    put_kept : {r : Reply} → put_reply c key (length made) ≡ r → eqb r.0 0 ≡ false → c ≡ put_out c key made
    unfolding put_out
    put_kept e h = kept_chunk _ c e h

    pub put_there : key_entry c key < entry_count c → PutsOutline c key made (Err (KeyThere key)) c
    put_there l =
        let r = put_reply_there (length made) l in
        record { reply = sym r; chunk = put_kept r refl }

    module _ (e : key_entry c key ≡ entry_count c) where
      missing : entry_count c ≤ key_entry c key
      missing = omega arith

      pub put_full : {n : ℕ} → n ≡ entry_count c → empty_entry c ≡ entry_count c → PutsOutline c key made (Err (TableFull n)) c
      put_full en l =
          let r = put_reply_full (length made) missing (omega arith) in
          record { reply = ap (λ k. (17, k)) en ∙ sym r; chunk = put_kept r refl }

      pub put_no_room : empty_entry c < entry_count c → length c < end_in c + length made → PutsOutline c key made (Err (NoRoom (length made))) c
      put_no_room l h =
          let r = put_reply_room (length made) missing l h in
          record { reply = sym r; chunk = put_kept r refl }

      pub put_done : {c₁ : List ℕ} → empty_entry c < entry_count c → end_in c + length made ≤ length c → c₁ ≡ added_in (gap_in c (length made)) c key made → PutsOutline c key made (Ok (length made)) c₁
      unfolding put_out
      put_done l h ec =
          let r = put_reply_done (length made) missing l h in
          record { reply = sym r; chunk = ec ∙ new_chunk _ c r }
