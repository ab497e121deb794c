-- After writing over the bytes of one entry's outline: the table is as it was, and so are the other outlines. Assumes nothing.
use mathlib.Core.Path.{◌≡◌, refl, sym, ap, ◌∙◌}
use mathlib.Core.Bool.{true, false, not}
use mathlib.Core.Logic.{◌⊎◌, inl, inr, ⊎_elim}
use mathlib.Core.List.{List}
use Prim.Native.Nat.{ℕ, ◌+◌, ◌*◌, ◌≤◌, ◌<◌}
use native.Mathlib.Omega.{arith}
use borrow.Author.Tests.{eqb-true}
use lib.Dec.{eqb}
use lib.ListN.{length, take, drop}
use Rattle.runs.specs.Runs.{over, put}
use Rattle.words.specs.Words.{word_from}
use Rattle.replies.specs.Replies.{Reply}
use Rattle.chunk_table.specs.Tables.{entry_count, front_in, key_in, offset_in, size_in, empty_at, used_at, damaged_in, holds_key, key_entry}
use Rattle.chunks.specs.Calls.{find_reply, find_offset}
use Rattle.chunks.specs.Chunks.{part_in}
use Rattle.chunk_laws.specs.Theorems.{found_bytes, WrittenInside}
use Rattle.chunk_table.proofs.Below.{test, less_or}
use Rattle.chunk_table.proofs.SoundTables.{SoundTable, sound_table, table_sound}
use Rattle.chunks.proofs.Answered.{reply_damaged, reply_missing, reply_found, offset_none, offset_some, place_here}
use Rattle.chunks.proofs.Laid.{over-length, word_out}
use Rattle.chunk_laws.proofs.Entries.{part_out, part_in_lem, part_found, part_same, place_same}

module _ (c : List ℕ) (key : ℕ) (new : List ℕ) (h : damaged_in c ≡ false) (m : key_entry c key < entry_count c) (size : size_in c (key_entry c key) ≡ length new) where
  s : SoundTable c
  s = sound_table c h

  abbrev New : List ℕ
  New = over put c (offset_in c (key_entry c key)) new

  low : front_in c ≤ offset_in c (key_entry c key)
  low = s.low (key_entry c key) m (place_here c key m).0

  word : (p : ℕ) → p + 4 ≤ front_in c → word_from New p ≡ word_from c p
  word p d = word_out c (offset_in c (key_entry c key)) new p (inl (omega (arith, low)))

  long : length New ≡ length c
  long = over-length c (offset_in c (key_entry c key)) new

  count : entry_count New ≡ entry_count c
  count = word 0 (omega arith)

  module _ (j : ℕ) (d : j < entry_count c) where
    key' : key_in New j ≡ key_in c j
    key' = word (4 + 12 * j) (omega arith)

    offset' : offset_in New j ≡ offset_in c j
    offset' = word (8 + 12 * j) (omega arith)

    size' : size_in New j ≡ size_in c j
    size' = word (12 + 12 * j) (omega arith)

    used' : used_at New j ≡ used_at c j
    unfolding used_at empty_at
    used' = ap (λ z. not (eqb z 0)) size'

    holds' : (k : ℕ) → holds_key New k j ≡ holds_key c k j
    unfolding holds_key
    holds' k = rw (used', key')

  new_sound : SoundTable New
  new_sound =
      let d' : (j : ℕ) → j < entry_count New → j < entry_count c = λ j d. omega (arith, count) in
      let u' : (j : ℕ) (d : j < entry_count New) → used_at New j ≡ true → used_at c j ≡ true = λ j d u. sym (used' j (d' j d)) ∙ u in
      record {
        small = omega (arith, long, s.small);
        head = omega (arith, long, s.head);
        few = omega (arith, count, s.few);
        table = omega (arith, count, long, s.table);
        low = λ j d u. omega (arith, count, offset' j (d' j d), s.low j (d' j d) (u' j d u));
        high = λ j d u. omega (arith, long, offset' j (d' j d), size' j (d' j d), s.high j (d' j d) (u' j d u));
        keys = λ i j l d u v e. let b : i < entry_count New = omega arith in s.keys i j l (d' j d) (u' i b u) (u' j d v) (sym (key' i (d' i b)) ∙ e ∙ key' j (d' j d));
        apart = λ i j l d u v. let b : i < entry_count New = omega arith in
            ⊎_elim
            (λ t. inl (omega (arith, offset' i (d' i b), size' i (d' i b), offset' j (d' j d))))
            (λ t. inr (omega (arith, offset' i (d' i b), size' j (d' j d), offset' j (d' j d))))
            (s.apart i j l (d' j d) (u' i b u) (u' j d v));
      }

  place' : (k : ℕ) → key_entry New k ≡ key_entry c k
  place' k = place_same c New k s new_sound count (λ j d. holds' j d k)

  new-reply : (k : ℕ) → find_reply New k ≡ find_reply c k
  new-reply k =
      ⊎_elim
      (λ d. reply_found New k (table_sound New new_sound) (omega (arith, place' k, count)) ∙ ap (λ j. (0, size_in New j)) (place' k) ∙ ap (λ n. (0, n)) (size' (key_entry c k) d) ∙ sym (reply_found c k h d))
      (λ d. reply_missing New k (table_sound New new_sound) (omega (arith, place' k, count)) ∙ sym (reply_missing c k h d))
      (less_or (key_entry c k) (entry_count c))

  new_offset : (k : ℕ) → find_offset New k ≡ find_offset c k
  new_offset k =
      ⊎_elim
      (λ d. sym (offset_some New k (reply_found New k (table_sound New new_sound) (omega (arith, place' k, count)))) ∙ ap (offset_in New) (place' k) ∙ offset' (key_entry c k) d ∙ offset_some c k (reply_found c k h d))
      (λ d. sym (offset_none New k (reply_missing New k (table_sound New new_sound) (omega (arith, place' k, count))) refl) ∙ offset_none c k (reply_missing c k h d) refl)
      (less_or (key_entry c k) (entry_count c))

  new_part : found_bytes New key ≡ new
  unfolding part_in
  new_part =
      part_found New key (table_sound New new_sound) (omega (arith, place' key, count))
      ∙ ap (part_in New) (place' key)
      ∙ ap (λ o. take (size_in New (key_entry c key)) (drop o New)) (offset' (key_entry c key) m)
      ∙ ap (λ n. take n (drop (offset_in c (key_entry c key)) New)) (size' (key_entry c key) m ∙ size)
      ∙ part_in_lem c (offset_in c (key_entry c key)) new (omega (arith, size, s.high (key_entry c key) m (place_here c key m).0))

  apart : (j : ℕ) → j < entry_count c → used_at c j ≡ true → (j ≡ key_entry c key → ⊥) → (offset_in c j + size_in c j ≤ offset_in c (key_entry c key)) ⊎ (offset_in c (key_entry c key) + length new ≤ offset_in c j)
  apart j d u o =
      ⊎_elim
      (λ l. ⊎_elim (λ t. inl t) (λ t. inr (omega (arith, size))) (s.apart j (key_entry c key) l m u (place_here c key m).0))
      (λ l. ⊎_elim (λ t. inr (omega (arith, size))) (λ t. inl t) (s.apart (key_entry c key) j (⊎_elim (λ t. t) (λ t. absurd (o (omega arith))) (less_or (key_entry c key) j)) d (place_here c key m).0 u))
      (less_or j (key_entry c key))

  new_others : (k : ℕ) → (k ≡ key → ⊥) → found_bytes New k ≡ found_bytes c k
  unfolding part_in
  new_others k n =
      part_same c New k s new_sound count (λ j d. holds' j d k)
      (λ j d u e.
      let o : j ≡ key_entry c key → ⊥ = λ g. n (sym e ∙ ap (key_in c) g ∙ eqb-true _ _ (place_here c key m).1) in
      ap (λ z. take z (drop (offset_in New j) New)) (size' j d)
      ∙ ap (λ q. take (size_in c j) (drop q New)) (offset' j d)
      ∙ part_out c (offset_in c (key_entry c key)) new (offset_in c j) (size_in c j) (apart j d u o))

pub written_inside : WrittenInside
written_inside c key new e =
    ⊎_elim
    (λ h. let z : ◌≡◌ {A = ℕ} 14 0 = ap (λ (x : Reply). x.0) (sym (reply_damaged c key h) ∙ e) in absurd (omega arith))
    (λ h. ⊎_elim
    (λ m.
    let r = reply_found c key h m in
    let size : size_in c (key_entry c key) ≡ length new = ap (λ (x : Reply). x.1) (sym r ∙ e) in
    let o : find_offset c key ≡ offset_in c (key_entry c key) = sym (offset_some c key r) in
    rw o
    (table_sound _ (new_sound c key new h m size), new-reply c key new h m size, new_offset c key new h m size, new_part c key new h m size, new_others c key new h m size))
    (λ m. let z : ◌≡◌ {A = ℕ} 16 0 = ap (λ (x : Reply). x.0) (sym (reply_missing c key h m) ∙ e) in absurd (omega arith))
    (less_or (key_entry c key) (entry_count c)))
    (test (damaged_in c))
