-- Bytes behind the table and one entry of it written: what stands in the other entries, and in their outlines. Assumes nothing.
use mathlib.Core.Path.{◌≡◌, refl, sym, ap, ◌∙◌}
use mathlib.Core.Bool.{true, false, not}
use mathlib.Core.Logic.{◌⊎◌, inl, inr, ⊎_elim}
use mathlib.Core.List.{List, []}
use Prim.Native.Nat.{ℕ, ◌+◌, ◌*◌, ◌≤◌, ◌<◌}
use native.Mathlib.Nat.{zero-add}
use native.Mathlib.Omega.{arith}
use borrow.Author.Tests.{eqb-true}
use lib.Dec.{eqb}
use lib.ListN.{length, get_or, take, drop, length-take, length-drop}
use lib.Seq.{get_or-take, get_or-drop, ext_get_or}
use Rattle.runs.specs.Runs.{over, put}
use Rattle.words.specs.Words.{word_from}
use Rattle.replies.specs.Replies.{Reply}
use Rattle.chunk_table.specs.Tables.{entry_count, front_in, key_in, offset_in, size_in, empty_at, used_at, holds_key, key_entry, damaged_in}
use Rattle.chunks.specs.Calls.{find_reply, find_offset}
use Rattle.chunks.specs.Chunks.{part_in}
use Rattle.chunk_laws.specs.Theorems.{found_bytes}
use Rattle.chunk_table.proofs.Below.{less_or, first_only, first_told}
use Rattle.chunk_table.proofs.SoundTables.{SoundTable, table_sound}
use Rattle.chunks.proofs.Answered.{reply_missing, reply_found, offset_some, place_here}
use Rattle.chunks.proofs.Laid.{over-length, over_out, over_in_at, word_out}

-- ---- parts

pub part_out : (l : List ℕ) (a : ℕ) (vs : List ℕ) (o n : ℕ) → (o + n ≤ a) ⊎ (a + length vs ≤ o) → take n (drop o (over put l a vs)) ≡ take n (drop o l)
part_out l a vs o n h =
    let t = take n (drop o (over put l a vs)) in
    let e : length t ≡ length (take n (drop o l)) =
    omega (arith, length-take n (drop o (over put l a vs)), length-take n (drop o l), length-drop o (over put l a vs), length-drop o l, over-length l a vs) in
    ext_get_or 0 t (take n (drop o l)) e λ k d.
    let kn : k < n = omega (arith, length-take n (drop o (over put l a vs))) in
    get_or-take n (drop o (over put l a vs)) k 0 kn
    ∙ get_or-drop o (over put l a vs) k 0
    ∙ over_out l a vs (o + k) (⊎_elim (λ t. inl (omega arith)) (λ t. inr (omega arith)) h)
    ∙ sym (get_or-take n (drop o l) k 0 kn ∙ get_or-drop o l k 0)

pub part_in_lem : (l : List ℕ) (a : ℕ) (vs : List ℕ) → a + length vs ≤ length l → take (length vs) (drop a (over put l a vs)) ≡ vs
part_in_lem l a vs h =
    let t = take (length vs) (drop a (over put l a vs)) in
    let e : length t ≡ length vs = omega (arith, length-take (length vs) (drop a (over put l a vs)), length-drop a (over put l a vs), over-length l a vs) in
    ext_get_or 0 t vs e λ k d.
    get_or-take (length vs) (drop a (over put l a vs)) k 0 (omega arith)
    ∙ get_or-drop a (over put l a vs) k 0
    ∙ over_in_at l a vs (a + k) k refl h (omega arith)

-- ---- one entry, and bytes behind the table

module _ (c : List ℕ) (i a : ℕ) (vs ws : List ℕ) (twelve : length ws ≡ 12) (within : i < entry_count c) (room : front_in c ≤ length c) (behind : front_in c ≤ a) where
  abbrev pub Over : List ℕ
  Over = over put (over put c a vs) (4 + 12 * i) ws

  pub over_all : length Over ≡ length c
  over_all = over-length (over put c a vs) (4 + 12 * i) ws ∙ over-length c a vs

  over_word : (p : ℕ) → p + 4 ≤ front_in c → (p + 4 ≤ 4 + 12 * i) ⊎ (16 + 12 * i ≤ p) → word_from Over p ≡ word_from c p
  over_word p d h = word_out (over put c a vs) (4 + 12 * i) ws p (⊎_elim (λ t. inl t) (λ t. inr (omega arith)) h) ∙ word_out c a vs p (inl (omega arith))

  pub over_count : entry_count Over ≡ entry_count c
  over_count = over_word 0 (omega arith) (inl (omega arith))

  module _ (j : ℕ) (d : j < entry_count c) (other : j ≡ i → ⊥) where
    pub over_key : key_in Over j ≡ key_in c j
    over_key = over_word (4 + 12 * j) (omega arith) (⊎_elim (λ t. inl (omega arith)) (λ t. ⊎_elim (λ u. inr (omega arith)) (λ u. absurd (other (omega arith))) (less_or i j)) (less_or j i))

    pub over_offset : offset_in Over j ≡ offset_in c j
    over_offset = over_word (8 + 12 * j) (omega arith) (⊎_elim (λ t. inl (omega arith)) (λ t. ⊎_elim (λ u. inr (omega arith)) (λ u. absurd (other (omega arith))) (less_or i j)) (less_or j i))

    pub over_size : size_in Over j ≡ size_in c j
    over_size = over_word (12 + 12 * j) (omega arith) (⊎_elim (λ t. inl (omega arith)) (λ t. ⊎_elim (λ u. inr (omega arith)) (λ u. absurd (other (omega arith))) (less_or i j)) (less_or j i))

    pub over_empty : empty_at Over j ≡ empty_at c j
    unfolding empty_at
    over_empty = ap (λ z. eqb z 0) over_size

    pub over_used : used_at Over j ≡ used_at c j
    unfolding used_at
    over_used = ap not over_empty

    pub over_holds : (key : ℕ) → holds_key Over key j ≡ holds_key c key j
    unfolding holds_key
    over_holds key = rw (over_used, over_key)

    pub over_part : front_in c ≤ offset_in c j → (offset_in c j + size_in c j ≤ a) ⊎ (a + length vs ≤ offset_in c j) → part_in Over j ≡ part_in c j
    unfolding part_in
    over_part f h =
        rw (over_size, over_offset)
        (part_out (over put c a vs) (4 + 12 * i) ws (offset_in c j) (size_in c j) (inr (omega arith))
        ∙ part_out c a vs (offset_in c j) (size_in c j) h)

  -- the entry itself
  pub over_entry : (p q : ℕ) → p ≡ 4 + 12 * i + q → q + 4 ≤ 12 → word_from Over p ≡ word_from ws q
  unfolding word_from
  over_entry p q e h =
      let at : (k : ℕ) → k < 4 → get_or Over (p + k) 0 ≡ get_or ws (q + k) 0 = λ k d. over_in_at (over put c a vs) (4 + 12 * i) ws (p + k) (q + k) (omega arith) (omega (arith, over-length c a vs)) (omega arith) in
      let here : get_or Over p 0 ≡ get_or ws q 0 = over_in_at (over put c a vs) (4 + 12 * i) ws p q e (omega (arith, over-length c a vs)) (omega arith) in
      rw (here, at 1 (omega arith), at 2 (omega arith), at 3 (omega arith))

-- ---- what find gives, by the table

pub part_found : (c : List ℕ) (k : ℕ) → damaged_in c ≡ false → key_entry c k < entry_count c → found_bytes c k ≡ part_in c (key_entry c k)
unfolding found_bytes part_in
part_found c k h m =
    let r = reply_found c k h m in
    let z : eqb (find_reply c k).0 0 ≡ true = ap (λ (x : Reply). eqb x.0 0) r in
    rw (z, found_bytes)
    (ap (λ (x : Reply). take x.1 (drop (find_offset c k) c)) r ∙ ap (λ o. take (size_in c (key_entry c k)) (drop o c)) (sym (offset_some c k r)))

pub part_none : (c : List ℕ) (k : ℕ) → damaged_in c ≡ false → entry_count c ≤ key_entry c k → found_bytes c k ≡ []
unfolding found_bytes
part_none c k h m =
    let z : eqb (find_reply c k).0 0 ≡ false = ap (λ (x : Reply). eqb x.0 0) (reply_missing c k h m) in
    rw (z, found_bytes)

-- a key that the same entry holdsKey, with the same bytes
module _ (c t : List ℕ) (k : ℕ) (s : SoundTable c) (u : SoundTable t) (count : entry_count t ≡ entry_count c) (same : (j : ℕ) → j < entry_count c → holds_key t k j ≡ holds_key c k j) where
  pub place_same : key_entry t k ≡ key_entry c k
  unfolding key_entry
  place_same =
      let r = first_told (holds_key c k) 0 (entry_count c) (entry_count c) (zero-add (entry_count c)) in
      first_only (holds_key t k) 0 (entry_count t) (entry_count t) (key_entry c k) (zero-add (entry_count t)) (record {
        from = omega arith;
        upto = omega (arith, r.upto);
        before = λ j a b. same j (omega (arith, r.upto)) ∙ r.before j a b;
        here = λ l. same (key_entry c k) (omega arith) ∙ r.here (omega arith);
      })

  pub part_same : ((j : ℕ) → j < entry_count c → used_at c j ≡ true → key_in c j ≡ k → part_in t j ≡ part_in c j) → found_bytes t k ≡ found_bytes c k
  part_same parts =
      ⊎_elim
      (λ m. let h = place_here c k m in
      part_found t k (table_sound t u) (omega (arith, place_same)) ∙ ap (part_in t) place_same ∙ parts (key_entry c k) m h.0 (eqb-true _ _ h.1) ∙ sym (part_found c k (table_sound c s) m))
      (λ m. part_none t k (table_sound t u) (omega (arith, place_same)) ∙ sym (part_none c k (table_sound c s) m))
      (less_or (key_entry c k) (entry_count c))
