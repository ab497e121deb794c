-- After an outline was put in: the table is sound, the key finds the bytes put, every other key finds the same bytes. Assumes nothing.
use Rattle.std.specs.Prelude.{Option, Some, None}
use mathlib.Core.Path.{◌≡◌, refl, sym, ap, ◌∙◌}
use mathlib.Core.Bool.{true, false, not}
use mathlib.Core.Logic.{◌⊎◌, inl, inr, ⊎_elim}
use mathlib.Core.List.{List, [], ◌∷◌, ◌++◌}
use Prim.Native.Nat.{ℕ, ◌+◌, ◌*◌, ◌^◌, ◌≤◌, ◌<◌}
use native.Mathlib.Nat.{zero-add}
use native.Mathlib.Omega.{arith}
use borrow.Author.Tests.{eq-eqb, ne_eqb}
use lib.Dec.{eqb}
use lib.ListN.{length, take, drop}
use Rattle.runs.specs.Runs.{over, put}
use Rattle.words.specs.Words.{four_bytes, word_from}
use Rattle.replies.specs.Replies.{Reply}
use Rattle.chunk_table.specs.Tables.{entry_count, front_in, key_in, offset_in, size_in, empty_at, used_at, damaged_in, holds_key, key_entry, in_order, empty_entry}
use Rattle.chunks.specs.Calls.{find_reply, put_reply, put_out, added_in}
use Rattle.chunks.specs.Chunks.{part_in, gap_from, gap_in, end_in, compacted_of, with_outline}
use Rattle.chunk_laws.specs.Theorems.{found_bytes, PutIsSound, PutIsFound, PuttingKeeps}
use Rattle.words.proofs.Bytes.{four_back}
use Rattle.chunk_table.proofs.Below.{not_both, test, less_or, same_or, first_only, first_told}
use Rattle.chunk_table.proofs.Ordering.{All, all_map, every_ordered}
use Rattle.chunk_table.proofs.SoundTables.{SoundTable, sound_table, table_sound, some_is_used, holds_empty, holds_used}
use Rattle.chunk_table.proofs.Standing.{StandsFrom, stands_next, in_order_stands}
use Rattle.chunks.proofs.Answered.{reply_found, put_reply_there, put_reply_full, put_reply_room, put_reply_done, kept_chunk, new_chunk}
use Rattle.chunks.proofs.Ends.{end_from_lem}
use Rattle.chunks.proofs.Packed.{gap_fitting, gap_past, gap_last, gap_none, nothing_at, at_same, gap_room}
use Rattle.chunks.proofs.Placed.{compacted_length}
use Rattle.chunk_laws.proofs.AfterCompact.{compacted_count, compacted_empty, compacted_used, compacted_size, compacted_holds, compacted_upto, compacted_sound, compacted_keeps}
use Rattle.chunk_laws.proofs.Entries.{part_out, part_in_lem, over_count, over_holds, over_part, over_entry, part_found, part_same}
use Rattle.chunk_laws.proofs.SoundEntries.{anew_sound}

-- ---- one outline put where it fits

-- a sound chunk, an empty entry of it, a place that is free for n bytes, and a key that it does not hold
pub record Fitting (c : List ℕ) (i at n key : ℕ) : Type 0 where
  pub sound : SoundTable c
  pub within : i < entry_count c
  pub empty : empty_at c i ≡ true
  pub low : front_in c ≤ at
  pub high : at + n ≤ length c
  pub free : (j : ℕ) → j < entry_count c → used_at c j ≡ true → (offset_in c j + size_in c j ≤ at) ⊎ (at + n ≤ offset_in c j)
  pub missing : (j : ℕ) → j < entry_count c → holds_key c key j ≡ false
  pub short : key < 2 ^ 32

module _ {c : List ℕ} {i at key : ℕ} (made : List ℕ) (f : Fitting c i at (length made) key) where
  entry : List ℕ
  entry = four_bytes key ++ (four_bytes at ++ four_bytes (length made))

  twelve : length entry ≡ 12
  unfolding entry four_bytes
  twelve = refl

  abbrev Put : List ℕ
  Put = over put (over put c at made) (4 + 12 * i) entry

  put_is : with_outline c i key at made ≡ Put
  unfolding with_outline entry
  put_is = refl

  new_key : key_in Put i ≡ key
  unfolding entry four_bytes word_from
  new_key = over_entry c i at made entry twelve f.within f.sound.table f.low (4 + 12 * i) 0 (omega arith) (omega arith) ∙ four_back key f.short

  new_offset : offset_in Put i ≡ at
  unfolding entry four_bytes word_from
  new_offset = over_entry c i at made entry twelve f.within f.sound.table f.low (8 + 12 * i) 4 (omega arith) (omega arith) ∙ four_back at (omega (arith, f.high, f.sound.small))

  new_size : size_in Put i ≡ length made
  unfolding entry four_bytes word_from
  new_size = over_entry c i at made entry twelve f.within f.sound.table f.low (12 + 12 * i) 8 (omega arith) (omega arith) ∙ four_back (length made) (omega (arith, f.high, f.sound.small))

  unused : used_at c i ≡ false
  unfolding used_at
  unused = ap not f.empty

  other_key : (j : ℕ) → j < entry_count c → used_at c j ≡ true → key_in c j ≡ key → ⊥
  other_key j d u e = not_both (eq-eqb (key_in c j) key e) (holds_used c j key u ∙ f.missing j d)

  put_sound : SoundTable Put
  put_sound = anew_sound c f.sound i at made entry twelve f.within f.low λ u. record {
    low = omega (arith, new_offset, f.low);
    high = omega (arith, new_offset, new_size, f.high);
    keys = λ j d v n e. other_key j d v (e ∙ new_key);
    apart = λ j d v n. ⊎_elim (λ t. inl (omega (arith, new_offset))) (λ t. inr (omega (arith, new_offset, new_size))) (f.free j d v);
  }

  count : entry_count Put ≡ entry_count c
  count = over_count c i at made entry twelve f.within f.sound.table f.low

  others : (k j : ℕ) → j < entry_count c → (j ≡ i → ⊥) → holds_key Put k j ≡ holds_key c k j
  others k j d n = over_holds c i at made entry twelve f.within f.sound.table f.low j d n k

  put_keeps : (k : ℕ) → (k ≡ key → ⊥) → found_bytes Put k ≡ found_bytes c k
  put_keeps k n =
      part_same c Put k f.sound put_sound count
      (λ j d. ⊎_elim
      (λ e. ap (holds_key Put k) e ∙ none ∙ sym (ap (holds_key c k) e ∙ sym (holds_empty c i k unused)))
      (λ o. others k j d o)
      (same_or j i))
      (λ j d u e.
      let o : j ≡ i → ⊥ = λ g. not_both (sym (ap (used_at c) g) ∙ u) unused in
      over_part c i at made entry twelve f.within f.sound.table f.low j d o (f.sound.low j d u) (f.free j d u))
    where
      none : holds_key Put k i ≡ false
      none = ⊎_elim
          (λ u. sym (holds_used Put i k u) ∙ ne_eqb (key_in Put i) k (λ e. n (sym e ∙ new_key)))
          (λ u. sym (holds_empty Put i k u))
          (test (used_at Put i))

  module _ (some : 0 < length made) where
    new_holds : holds_key Put key i ≡ true
    new_holds = sym (holds_used Put i key (some_is_used Put i (omega (arith, new_size)))) ∙ eq-eqb (key_in Put i) key new_key

    put_place : key_entry Put key ≡ i
    unfolding key_entry
    put_place = first_only (holds_key Put key) 0 (entry_count Put) (entry_count Put) i (zero-add (entry_count Put)) (record {
      from = omega arith;
      upto = omega (arith, count, f.within);
      before = λ j a b. let d : j < entry_count c = omega (arith, f.within) in others key j d (λ e. omega arith) ∙ f.missing j d;
      here = λ l. new_holds;
    })

    put_found : find_reply Put key ≡ (0, length made)
    put_found =
        reply_found Put key (table_sound Put put_sound) (omega (arith, put_place, count, f.within))
        ∙ ap (λ j. (0, size_in Put j)) put_place ∙ ap (λ n. (0, n)) new_size

    put_part : found_bytes Put key ≡ made
    unfolding part_in
    put_part =
        part_found Put key (table_sound Put put_sound) (omega (arith, put_place, count, f.within))
        ∙ ap (part_in Put) put_place
        ∙ ap (λ n. take n (drop (offset_in Put i) Put)) new_size
        ∙ ap (λ o. take (length made) (drop o Put)) new_offset
        ∙ part_out (over put c at made) (4 + 12 * i) entry at (length made) (inr (omega (arith, twelve, f.low, f.within)))
        ∙ part_in_lem c at made f.high

-- ---- a gap that is found is free

gap_free : (c : List ℕ) (n : ℕ) (l : List ℕ) (from : ℕ) {at : ℕ} → StandsFrom c from l → gap_from c n l from ≡ Some at
    → (from ≤ at) × All (λ j. (offset_in c j + size_in c j ≤ at) ⊎ (at + n ≤ offset_in c j)) l
gap_free c n [] from {at} h e = pick (less_or (length c) (from + n))
  where
    pick : (length c < from + n) ⊎ (from + n ≤ length c) → (from ≤ at) × Unit {0}
    pick (inl t) = let q : None ≡ Some at = gap_none c n from refl refl t ∙ e in absurd (nothing_at q)
    pick (inr t) = let q : Some from ≡ Some at = gap_last c n from refl refl t ∙ e in (omega (arith, at_same q), tt)
gap_free c n (i ∷ l) from {at} h e = pick (less_or (offset_in c i) (from + n)) (gap_free c n l (offset_in c i + size_in c i) {at = at} (stands_next h))
  where
    Free : ℕ → Type 0
    Free j = (offset_in c j + size_in c j ≤ at) ⊎ (at + n ≤ offset_in c j)

    pick : (offset_in c i < from + n) ⊎ (from + n ≤ offset_in c i) → (gap_from c n l (offset_in c i + size_in c i) ≡ Some at → (offset_in c i + size_in c i ≤ at) × All Free l) → (from ≤ at) × All Free (i ∷ l)
    pick (inl t) r =
        let g = r (gap_past c n from refl {rest = l} refl refl refl t ∙ e) in
        (omega (arith, g.0, h.from.0), (inl g.0, g.1))
    pick (inr t) r =
        let q : Some from ≡ Some at = gap_fitting c n from refl {rest = l} refl refl t ∙ e in
        (omega (arith, at_same q), (inr (omega (arith, at_same q)), all_map (λ j. offset_in c i + size_in c i ≤ offset_in c j) Free (λ j d. inr (omega (arith, at_same q))) l h.each.0))

-- ---- through the call

-- every test is passed
pub record PassedRows (c : List ℕ) (key n : ℕ) : Type 0 where
  pub sound : damaged_in c ≡ false
  pub missing : entry_count c ≤ key_entry c key
  pub empty : empty_entry c < entry_count c
  pub room : end_in c + n ≤ length c

cases : (c : List ℕ) (key n : ℕ) → damaged_in c ≡ false → PassedRows c key n ⊎ ((r : Reply) × (put_reply c key n ≡ r) × (eqb r.0 0 ≡ false))
cases c key n h =
    ⊎_elim
    (λ m. inr ((15, key), put_reply_there c key n m, refl))
    (λ m. ⊎_elim
    (λ f. ⊎_elim
    (λ r. inr ((5, n), put_reply_room c key n m f r, refl))
    (λ r. inl (record { sound = h; missing = m; empty = f; room = r }))
    (less_or (length c) (end_in c + n)))
    (λ f. inr ((17, entry_count c), put_reply_full c key n m f, refl))
    (less_or (empty_entry c) (entry_count c)))
    (less_or (key_entry c key) (entry_count c))

put_same : (c : List ℕ) (key : ℕ) (made : List ℕ) {r : Reply} → put_reply c key (length made) ≡ r → eqb r.0 0 ≡ false → put_out c key made ≡ c
unfolding put_out
put_same c key made e h = sym (kept_chunk _ c e h)

module _ (c : List ℕ) (key : ℕ) (made : List ℕ) (p : PassedRows c key (length made)) where
  s : SoundTable c
  s = sound_table c p.sound

  passed_out : put_out c key made ≡ added_in (gap_in c (length made)) c key made
  unfolding put_out
  passed_out = sym (new_chunk _ c (put_reply_done c key (length made) p.missing p.empty p.room))

  none : (j : ℕ) → j < entry_count c → holds_key c key j ≡ false
  unfolding key_entry
  none j d = let r = first_told (holds_key c key) 0 (entry_count c) (entry_count c) (zero-add (entry_count c)) in r.before j (omega arith) (omega (arith, p.missing))

  vacant : empty_at c (empty_entry c) ≡ true
  unfolding empty_entry
  vacant = (first_told (empty_at c) 0 (entry_count c) (entry_count c) (zero-add (entry_count c))).here p.empty

  front_end : front_in c ≤ end_in c
  unfolding end_in
  front_end = end_from_lem c (in_order c) (front_in c)

  -- where it goes: into the chunk or the chunk compacted, at a place that is free
  pub record GoesInto : Type 0 where
    pub into : List ℕ
    pub place : ℕ
    pub same : (into ≡ c) ⊎ (into ≡ compacted_of c)
    pub fits : key < 2 ^ 32 → Fitting into (empty_entry c) place (length made) key
    pub out : put_out c key made ≡ with_outline into (empty_entry c) key place made

  goes : (g : Option ℕ) → gap_in c (length made) ≡ g → GoesInto
  unfolding added_in gap_in in_order
  goes (Some at) e =
      let r = gap_free c (length made) (in_order c) (front_in c) (in_order_stands c s) e in
      record {
        into = c;
        place = at;
        same = inl refl;
        fits = λ k. record {
          sound = s;
          within = p.empty;
          empty = vacant;
          low = r.0;
          high = gap_room c (length made) (in_order c) (front_in c) (in_order_stands c s) e;
          free = every_ordered (used_at c) (offset_in c) (λ j. (offset_in c j + size_in c j ≤ at) ⊎ (at + length made ≤ offset_in c j)) (entry_count c) r.1;
          missing = none;
          short = k;
        };
        out = passed_out ∙ ap (λ (x : Option ℕ). added_in x c key made) e;
      }
  goes None e = record {
    into = compacted_of c;
    place = end_in c;
    same = inr refl;
    fits = λ k. record {
      sound = compacted_sound c s;
      within = omega (arith, compacted_count c s, p.empty);
      empty = compacted_empty c s (empty_entry c) p.empty ∙ vacant;
      low = omega (arith, compacted_count c s, front_end);
      high = omega (arith, compacted_length c s, p.room);
      free = λ j d u. let d' : j < entry_count c = omega (arith, compacted_count c s) in inl (omega (arith, compacted_size c s j d', compacted_upto c s j d' (sym (compacted_used c s j d') ∙ u)));
      missing = λ j d. let d' : j < entry_count c = omega (arith, compacted_count c s) in compacted_holds c s key j d' ∙ none j d';
      short = k;
    };
    out = passed_out ∙ ap (λ (x : Option ℕ). added_in x c key made) e;
  }

pub put_is_sound : PutIsSound
put_is_sound c key made k h =
    ⊎_elim
    (λ p. let g = goes c key made p (gap_in c (length made)) refl in ap damaged_in (g.out ∙ put_is made (g.fits k)) ∙ table_sound _ (put_sound made (g.fits k)))
    (λ r. ap damaged_in (put_same c key made r.1 r.2) ∙ h)
    (cases c key (length made) h)

pub put_is_found : PutIsFound
put_is_found c key made k some h e =
    ⊎_elim
    (λ p. let g = goes c key made p (gap_in c (length made)) refl in
    let o = g.out ∙ put_is made (g.fits k) in
    (ap (λ t. find_reply t key) o ∙ put_found made (g.fits k) some, ap (λ t. found_bytes t key) o ∙ put_part made (g.fits k) some))
    (λ r. absurd (not_both (eq-eqb r.0.0 0 (sym (ap (λ (x : Reply). x.0) r.1) ∙ e)) r.2))
    (cases c key (length made) h)

pub putting_keeps : PuttingKeeps
putting_keeps c key made k short h n =
    ⊎_elim
    (λ p. let g = goes c key made p (gap_in c (length made)) refl in
    ap (λ t. found_bytes t k) (g.out ∙ put_is made (g.fits short))
    ∙ put_keeps made (g.fits short) k n
    ∙ ⊎_elim (λ e. ap (λ t. found_bytes t k) e) (λ e. ap (λ t. found_bytes t k) e ∙ compacted_keeps c (sound_table c p.sound) k) g.same)
    (λ r. ap (λ t. found_bytes t k) (put_same c key made r.1 r.2))
    (cases c key (length made) h)
