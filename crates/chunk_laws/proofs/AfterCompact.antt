-- After compacting: the table is sound, and every key finds the same bytes. Assumes nothing.
use mathlib.Core.Path.{◌≡◌, refl, sym, ap, ◌∙◌}
use mathlib.Core.Bool.{true, false, not}
use mathlib.Core.Logic.{◌⊎◌, inl, inr, ⊎_elim}
use mathlib.Core.List.{List, [], ◌∷◌, ◌++◌, append_assoc}
use Prim.Native.Nat.{ℕ, ◌+◌, ◌-◌, ◌*◌, ◌^◌, ◌≤◌, ◌<◌}
use native.Mathlib.Omega.{arith}
use lib.Dec.{eqb}
use lib.ListN.{length, take, drop, replicate}
use lib.Seq.{take_at, drop_at, drop-drop, length-take-le}
use Rattle.runs.specs.Runs.{spread, over, put}
use Rattle.words.specs.Words.{four_bytes, word_from}
use Rattle.replies.specs.Replies.{first_row}
use Rattle.chunk_table.specs.Tables.{entry_count, front_in, key_in, offset_in, size_in, empty_at, used_at, damaged_in, holds_key, in_order}
use Rattle.chunks.specs.Calls.{table_row, compact_reply, compact_out}
use Rattle.chunks.specs.Chunks.{part_in, end_from, end_in, outlines_in, packed_of, renumbered, compacted_of}
use Rattle.chunk_laws.specs.Theorems.{found_bytes, CompactedIsSound, CompactingKeeps}
use Rattle.chunk_table.proofs.Below.{test, less_or}
use Rattle.chunk_table.proofs.Ordering.{All, Pairs, all_map, all_every, ordered_pairs, every_ordered, each_ordered}
use Rattle.chunk_table.proofs.SoundTables.{EntriesApart, SoundTable, sound_table, table_sound}
use Rattle.chunk_table.proofs.Standing.{in_order_all, in_order_stands}
use Rattle.chunks.proofs.Answered.{kept_chunk, new_chunk}
use Rattle.chunks.proofs.Ends.{end_from_lem}
use Rattle.chunks.proofs.Laid.{over-length, word_out, word_in, drop_out, part_length_lem}
use Rattle.chunks.proofs.Placed.{end_inside, packed_is, packed_word, compacted_length}
use Rattle.chunk_laws.proofs.Entries.{part_same}

-- ---- offsets written

-- a word that is no entry's offset, and all bytes behind the table
renumbered_word : (c l : List ℕ) (at : ℕ) (s : List ℕ) (p : ℕ) → All (λ j. (p + 4 ≤ 8 + 12 * j) ⊎ (12 + 12 * j ≤ p)) l → word_from (renumbered c l at s) p ≡ word_from s p
unfolding renumbered four_bytes
renumbered_word c [] at s p h = refl
renumbered_word c (i ∷ l) at s p h =
    renumbered_word c l (at + size_in c i) (over put s (8 + 12 * i) (four_bytes at)) p h.1
    ∙ word_out s (8 + 12 * i) (four_bytes at) p (⊎_elim (λ t. inl t) (λ t. inr (omega arith)) h.0)

renumbered-drop : (c l : List ℕ) (at : ℕ) (s : List ℕ) (f : ℕ) → All (λ j. 12 + 12 * j ≤ f) l → drop f (renumbered c l at s) ≡ drop f s
unfolding renumbered four_bytes
renumbered-drop c [] at s f h = refl
renumbered-drop c (i ∷ l) at s f h =
    renumbered-drop c l (at + size_in c i) (over put s (8 + 12 * i) (four_bytes at)) f h.1
    ∙ drop_out s (8 + 12 * i) (four_bytes at) f (omega (arith, h.0))

-- entries whose offsets in t follow on from a place, by their lengths in c
abbrev Numbered : List ℕ → List ℕ → ℕ → List ℕ → Type 0
Numbered c [] at t = Unit {0}
Numbered c (i ∷ l) at t = (offset_in t i ≡ at) × Numbered c l (at + size_in c i) t

numbered : (c l : List ℕ) (at : ℕ) (s : List ℕ) → Pairs (λ i j. i ≡ j → ⊥) l → All (λ i. 16 + 12 * i ≤ length s) l → end_from c l at < 2 ^ 32 → Numbered c l at (renumbered c l at s)
unfolding renumbered end_from
numbered c [] at s d h e = tt
numbered c (i ∷ l) at s d h e =
    let t = over put s (8 + 12 * i) (four_bytes at) in (
      renumbered_word c l (at + size_in c i) t (8 + 12 * i) (all_map (λ j. i ≡ j → ⊥) (λ j. (8 + 12 * i + 4 ≤ 8 + 12 * j) ⊎ (12 + 12 * j ≤ 8 + 12 * i)) (λ j n. ⊎_elim (λ k. inl (omega arith)) (λ k. ⊎_elim (λ m. inr (omega arith)) (λ m. absurd (n (omega arith))) (less_or j i)) (less_or i j)) l d.0)
          ∙ word_in s (8 + 12 * i) at (omega (arith, h.0)) (omega (arith, end_from_lem c l (at + size_in c i))),
      numbered c l (at + size_in c i) t d.1 (all_map (λ j. 16 + 12 * j ≤ length s) (λ j. 16 + 12 * j ≤ length t) (λ j m. omega (arith, over-length s (8 + 12 * i) (four_bytes at))) l h.1) e,
    )

numbered-from : (c l : List ℕ) (at : ℕ) (t : List ℕ) → Numbered c l at t → All (λ j. at ≤ offset_in t j) l
numbered-from c [] at t h = tt
numbered-from c (i ∷ l) at t h = (omega (arith, h.0), all_map (λ j. at + size_in c i ≤ offset_in t j) (λ j. at ≤ offset_in t j) (λ j m. omega arith) l (numbered-from c l (at + size_in c i) t h.1))

numbered_upto : (c l : List ℕ) (at : ℕ) (t : List ℕ) → Numbered c l at t → All (λ j. offset_in t j + size_in c j ≤ end_from c l at) l
unfolding end_from
numbered_upto c [] at t h = tt
numbered_upto c (i ∷ l) at t h = (omega (arith, h.0, end_from_lem c l (at + size_in c i)), numbered_upto c l (at + size_in c i) t h.1)

numbered_pairs : (c l : List ℕ) (at : ℕ) (t : List ℕ) → All (λ j. size_in t j ≡ size_in c j) l → Numbered c l at t → Pairs (EntriesApart t) l
numbered_pairs c [] at t z h = tt
numbered_pairs c (i ∷ l) at t z h = (
  all_map (λ j. at + size_in c i ≤ offset_in t j) (EntriesApart t i) (λ j m. inl (omega (arith, h.0, z.0))) l (numbered-from c l (at + size_in c i) t h.1),
  numbered_pairs c l (at + size_in c i) t z.1 h.1,
)

-- their bytes
numbered_parts : (c l : List ℕ) (at : ℕ) (t rest : List ℕ) → Numbered c l at t → All (λ j. size_in t j ≡ size_in c j) l → All (λ j. length (part_in c j) ≡ size_in c j) l → drop at t ≡ spread (part_in c) l ++ rest → All (λ j. part_in t j ≡ part_in c j) l
unfolding spread part_in
numbered_parts c [] at t rest h z y e = tt
numbered_parts c (i ∷ l) at t rest h z y e =
    let e' : drop at t ≡ part_in c i ++ (spread (part_in c) l ++ rest) = e ∙ append_assoc (part_in c i) (spread (part_in c) l) rest in (
      here e',
      numbered_parts c l (at + size_in c i) t rest h.1 z.1 y.1
          (sym (drop-drop (size_in c i) at t) ∙ ap (drop (size_in c i)) e' ∙ drop_at (part_in c i) (spread (part_in c) l ++ rest) (size_in c i) y.0),
    )
  where
    here : drop at t ≡ part_in c i ++ (spread (part_in c) l ++ rest) → part_in t i ≡ part_in c i
    here e' =
        ap (λ n. take n (drop (offset_in t i) t)) z.0
        ∙ ap (λ o. take (size_in c i) (drop o t)) h.0
        ∙ ap (take (size_in c i)) e'
        ∙ take_at (part_in c i) (spread (part_in c) l ++ rest) (size_in c i) y.0

-- ---- a chunk compacted

module _ (c : List ℕ) (s : SoundTable c) where
  entries : All (λ i. i < entry_count c) (in_order c)
  entries = in_order_all c s (λ i. i < entry_count c) (λ i d u. d)

  compacted_word : (p : ℕ) → p + 4 ≤ front_in c → ((j : ℕ) → (p + 4 ≤ 8 + 12 * j) ⊎ (12 + 12 * j ≤ p)) → word_from (compacted_of c) p ≡ word_from c p
  unfolding compacted_of
  compacted_word p d h =
      renumbered_word c (in_order c) (front_in c) (packed_of c) p (all_every (λ j. (p + 4 ≤ 8 + 12 * j) ⊎ (12 + 12 * j ≤ p)) h (in_order c))
      ∙ packed_word c s p (sym (packed_is c s refl)) d

  pub compacted_count : entry_count (compacted_of c) ≡ entry_count c
  compacted_count = compacted_word 0 (omega arith) (λ j. inl (omega arith))

  pub compacted_key : (j : ℕ) → j < entry_count c → key_in (compacted_of c) j ≡ key_in c j
  compacted_key j d = compacted_word (4 + 12 * j) (omega arith) (λ i. ⊎_elim (λ t. inr (omega arith)) (λ t. inl (omega arith)) (less_or i j))

  pub compacted_size : (j : ℕ) → j < entry_count c → size_in (compacted_of c) j ≡ size_in c j
  compacted_size j d = compacted_word (12 + 12 * j) (omega arith) (λ i. ⊎_elim (λ t. inl (omega arith)) (λ t. inr (omega arith)) (less_or j i))

  pub compacted_empty : (j : ℕ) → j < entry_count c → empty_at (compacted_of c) j ≡ empty_at c j
  unfolding empty_at
  compacted_empty j d = ap (λ z. eqb z 0) (compacted_size j d)

  pub compacted_used : (j : ℕ) → j < entry_count c → used_at (compacted_of c) j ≡ used_at c j
  unfolding used_at
  compacted_used j d = ap not (compacted_empty j d)

  pub compacted_holds : (k j : ℕ) → j < entry_count c → holds_key (compacted_of c) k j ≡ holds_key c k j
  unfolding holds_key
  compacted_holds k j d = rw (compacted_used j d, compacted_key j d)

  sizes : All (λ j. size_in (compacted_of c) j ≡ size_in c j) (in_order c)
  sizes = all_map (λ i. i < entry_count c) (λ j. size_in (compacted_of c) j ≡ size_in c j) (λ j d. compacted_size j d) (in_order c) entries

  packed_length : length (packed_of c) ≡ length c
  packed_length =
      ap length (sym (packed_is c s refl))
      ∙ over-length (over put c (front_in c) (outlines_in c)) (end_in c) (replicate (length c - end_in c) 0)
      ∙ over-length c (front_in c) (outlines_in c)

  follow : Numbered c (in_order c) (front_in c) (compacted_of c)
  unfolding compacted_of in_order end_in
  follow = numbered c (in_order c) (front_in c) (packed_of c)
      (ordered_pairs (used_at c) (offset_in c) (λ i j. i ≡ j → ⊥) (λ x y n e. n (sym e)) (entry_count c) (λ i j l d u v e. omega arith))
      (all_map (λ i. i < entry_count c) (λ i. 16 + 12 * i ≤ length (packed_of c)) (λ i d. omega (arith, packed_length, s.table)) (in_order c) entries)
      (omega (arith, end_inside c s, s.small))

  behind : drop (front_in c) (compacted_of c) ≡ spread (part_in c) (in_order c) ++ replicate (length c - end_in c) 0
  unfolding compacted_of packed_of outlines_in
  behind =
      renumbered-drop c (in_order c) (front_in c) (packed_of c) (front_in c) (all_map (λ i. i < entry_count c) (λ i. 12 + 12 * i ≤ front_in c) (λ i d. omega arith) (in_order c) entries)
      ∙ drop_at (take (front_in c) c) (outlines_in c ++ replicate (length c - end_in c) 0) (front_in c) (length-take-le (front_in c) c s.table)

  compacted_parts : All (λ j. part_in (compacted_of c) j ≡ part_in c j) (in_order c)
  unfolding part_in
  compacted_parts =
      numbered_parts c (in_order c) (front_in c) (compacted_of c) (replicate (length c - end_in c) 0) follow sizes
      (all_map (λ i. offset_in c i + size_in c i ≤ length c) (λ j. length (part_in c j) ≡ size_in c j) (λ j d. part_length_lem c (offset_in c j) (size_in c j) d) (in_order c) (in_order_stands c s).inside)
      behind

  -- what holdsKey of the order holdsKey of each entry in use
  each : (P : ℕ → Type 0) → All P (in_order c) → (j : ℕ) → j < entry_count c → used_at c j ≡ true → P j
  unfolding in_order
  each P h j d u = every_ordered (used_at c) (offset_in c) P (entry_count c) h j d u

  pub compacted_from : (j : ℕ) → j < entry_count c → used_at c j ≡ true → front_in c ≤ offset_in (compacted_of c) j
  compacted_from = each (λ j. front_in c ≤ offset_in (compacted_of c) j) (numbered-from c (in_order c) (front_in c) (compacted_of c) follow)

  pub compacted_upto : (j : ℕ) → j < entry_count c → used_at c j ≡ true → offset_in (compacted_of c) j + size_in c j ≤ end_in c
  unfolding end_in
  compacted_upto = each (λ j. offset_in (compacted_of c) j + size_in c j ≤ end_in c) (numbered_upto c (in_order c) (front_in c) (compacted_of c) follow)

  apart : (i j : ℕ) → i < j → j < entry_count c → used_at c i ≡ true → used_at c j ≡ true → EntriesApart (compacted_of c) i j
  unfolding in_order
  apart = each_ordered (used_at c) (offset_in c) (EntriesApart (compacted_of c)) (λ x y h. ⊎_elim (λ t. inr t) (λ t. inl t) h) (entry_count c) (numbered_pairs c (in_order c) (front_in c) (compacted_of c) sizes follow)

  pub compacted_sound : SoundTable (compacted_of c)
  compacted_sound =
      let d' : (j : ℕ) → j < entry_count (compacted_of c) → j < entry_count c = λ j d. omega (arith, compacted_count) in
      let u' : (j : ℕ) (d : j < entry_count (compacted_of c)) → used_at (compacted_of c) j ≡ true → used_at c j ≡ true = λ j d u. sym (compacted_used j (d' j d)) ∙ u in
      record {
        small = omega (arith, compacted_length c s, s.small);
        head = omega (arith, compacted_length c s, s.head);
        few = omega (arith, compacted_count, s.few);
        table = omega (arith, compacted_count, compacted_length c s, s.table);
        low = λ j d u. omega (arith, compacted_count, compacted_from j (d' j d) (u' j d u));
        high = λ j d u. omega (arith, compacted_length c s, compacted_size j (d' j d), compacted_upto j (d' j d) (u' j d u), end_inside c s);
        keys = λ i j l d u v e. let b : i < entry_count (compacted_of c) = omega arith in s.keys i j l (d' j d) (u' i b u) (u' j d v) (sym (compacted_key i (d' i b)) ∙ e ∙ compacted_key j (d' j d));
        apart = λ i j l d u v. let b : i < entry_count (compacted_of c) = omega arith in apart i j l (d' j d) (u' i b u) (u' j d v);
      }

  pub compacted_keeps : (k : ℕ) → found_bytes (compacted_of c) k ≡ found_bytes c k
  compacted_keeps k =
      part_same c (compacted_of c) k s compacted_sound compacted_count (λ j d. compacted_holds k j d)
      (λ j d u e. each (λ j. part_in (compacted_of c) j ≡ part_in c j) compacted_parts j d u)

-- ---- through the call

compact_out_lem : (c : List ℕ) → damaged_in c ≡ false → compact_out c ≡ compacted_of c
unfolding compact_out compact_reply first_row table_row
compact_out_lem c h =
    let r : compact_reply c ≡ (0, end_in c) = rw (h, first_row) in
    sym (new_chunk (compacted_of c) c r)

compact_same : (c : List ℕ) → damaged_in c ≡ true → compact_out c ≡ c
unfolding compact_out compact_reply first_row table_row
compact_same c h =
    let r : compact_reply c ≡ (14, 0) = rw (h, first_row) in
    sym (kept_chunk (compacted_of c) c r refl)

pub compacted_is_sound : CompactedIsSound
compacted_is_sound c h = ap damaged_in (compact_out_lem c h) ∙ table_sound _ (compacted_sound c (sound_table c h))

pub compacting_keeps : CompactingKeeps
compacting_keeps c k =
    ⊎_elim
    (λ h. ap (λ t. found_bytes t k) (compact_same c h))
    (λ h. ap (λ t. found_bytes t k) (compact_out_lem c h) ∙ compacted_keeps c (sound_table c h) k)
    (test (damaged_in c))
