-- Outlines moved down one by one, their offsets written, and gaps looked for. Assumes nothing.
use Rattle.std.specs.Prelude.{Option, Some, None}
use mathlib.Core.Path.{◌≡◌, refl, sym, ap, ◌∙◌}
use mathlib.Core.Bool.{false}
use mathlib.Core.Logic.{◌⊎◌, inl, inr, ⊎_elim}
use mathlib.Core.List.{List, [], ◌∷◌, ◌++◌, append-nil}
use Prim.Native.Nat.{ℕ, ◌+◌, ◌*◌, ◌≤◌, ◌<◌}
use native.Mathlib.Nat.{add-zero}
use native.Mathlib.Numerals.{add-one}
use native.Mathlib.Omega.{arith}
use borrow.Author.Tests.{le-leb, lt-leb}
use lib.ListN.{length, get_or, take, drop, length-append}
use lib.Seq.{take-suc, take_all}
use Rattle.runs.specs.Runs.{spread, over, put}
use Rattle.words.specs.Words.{four_bytes, word_from}
use Rattle.chunk_table.specs.Orders.{EntriesIn, Sorted}
use Rattle.chunk_table.specs.Tables.{table_bytes, entry_count, front_in, offset_in, size_in, damaged_in, in_order}
use Rattle.chunks.specs.Chunks.{part_in, end_from, end_in, outlines_in, renumbered, gap_from, gap_in}
use Rattle.runs.proofs.Laws.{spread-append, over-append}
use Rattle.chunk_table.proofs.Below.{less_or}
use Rattle.chunk_table.proofs.Ordering.{All, all_at}
use Rattle.chunk_table.proofs.SoundTables.{sound_table}
use Rattle.chunk_table.proofs.Standing.{StandsFrom, stands_next, in_order_all, in_order_stands}
use Rattle.chunks.proofs.Ends.{end_length, end_from_lem, parts_below}
use Rattle.chunks.proofs.Laid.{over-length, word_out, drop_out, part_length_lem}

-- ---- an order in hand

pub sorted_of : {c order : List ℕ} → damaged_in c ≡ false → order ≡ in_order c → Sorted c order
sorted_of h e = record { sound = h; sorted = e }

module _ {c order : List ℕ} (h : Sorted c order) where
  -- what holds of every entry in use holds of those in hand
  pub sorted_all : (P : ℕ → Type 0) → All P (in_order c) → (k : ℕ) → k < length order → P (get_or order k 0)
  sorted_all P a k d = all_at P order (rw (← h.sorted) at a) k d

  pub sorted_entry : (k : ℕ) → k < length order → get_or order k 0 < entry_count c
  sorted_entry = sorted_all (λ i. i < entry_count c) (in_order_all c (sound_table c h.sound) (λ i. i < entry_count c) (λ i d u. d))

  pub sorted_inside : (k : ℕ) → k < length order → offset_in c (get_or order k 0) + size_in c (get_or order k 0) ≤ length c
  sorted_inside = sorted_all (λ i. offset_in c i + size_in c i ≤ length c) (in_order_stands c (sound_table c h.sound)).inside

  pub sorted_entries : {n : ℕ} → n ≡ entry_count c → EntriesIn n order
  sorted_entries e = record { entries = λ k d. omega (arith, sorted_entry k d) }

  pub sorted_end : end_from c order (front_in c) ≡ end_in c
  unfolding end_in
  sorted_end = ap (λ l. end_from c l (front_in c)) h.sorted

-- ---- moving down

-- the first k outlines are moved
pub record Packing (c : List ℕ) (k : ℕ) (s : List ℕ) (at : ℕ) : Type 0 where
  pub out : s ≡ over put c (front_in c) (spread (part_in c) (take k (in_order c)))
  pub pos : at ≡ front_in c + length (spread (part_in c) (take k (in_order c)))

pub packing_start : (c : List ℕ) {front : ℕ} → front ≡ front_in c → Packing c 0 c front
unfolding over spread
packing_start c e = record { out = refl; pos = e ∙ sym (add-zero (front_in c)) }

spread_more : (c : List ℕ) (l : List ℕ) (k : ℕ) → k < length l → spread (part_in c) (take (k + 1) l) ≡ spread (part_in c) (take k l) ++ part_in c (get_or l k 0)
unfolding spread
spread_more c l k d =
    ap (spread (part_in c)) (ap (λ n. take n l) (add-one k) ∙ take-suc l k 0 d)
    ∙ spread-append (part_in c) (take k l) (get_or l k 0 ∷ [])
    ∙ ap (λ p. spread (part_in c) (take k l) ++ p) (append-nil (part_in c (get_or l k 0)))

module _ {c order : List ℕ} {k : ℕ} {s : List ℕ} {at : ℕ} (h : Sorted c order) (p : Packing c k s at) where
  pub packing_length : length s ≡ length c
  packing_length = ap length p.out ∙ over-length c (front_in c) (spread (part_in c) (take k (in_order c)))

  -- the table stands as it was
  packing_word : (q : ℕ) → q + 4 ≤ front_in c → word_from s q ≡ word_from c q
  packing_word q d = ap (λ t. word_from t q) p.out ∙ word_out c (front_in c) (spread (part_in c) (take k (in_order c))) q (inl d)

  module _ (d : k < length order) where
    pub packing_offset : offset_in s (get_or order k 0) ≡ offset_in c (get_or order k 0)
    packing_offset = packing_word (8 + 12 * get_or order k 0) (omega (arith, sorted_entry h k d))

    pub packing_size : size_in s (get_or order k 0) ≡ size_in c (get_or order k 0)
    packing_size = packing_word (12 + 12 * get_or order k 0) (omega (arith, sorted_entry h k d))

    pub packing_entry : table_bytes (get_or order k 0 + 1) ≤ length s
    packing_entry = omega (arith, sorted_entry h k d, (sound_table c h.sound).table, packing_length)

    pub packing_below : at ≤ offset_in s (get_or order k 0)
    packing_below = omega (arith, p.pos, packing_offset, ap (λ l. offset_in c (get_or l k 0)) h.sorted, parts_below c (in_order c) (front_in c) k (in_order_stands c (sound_table c h.sound)) (omega (arith, ap length h.sorted)))

    pub packing_inside : offset_in s (get_or order k 0) + size_in s (get_or order k 0) ≤ length s
    packing_inside = omega (arith, packing_offset, packing_size, packing_length, sorted_inside h k d)

    pub packing_step : {o z : ℕ} {t : List ℕ} → o ≡ offset_in s (get_or order k 0) → z ≡ size_in s (get_or order k 0) → t ≡ over put s at (take z (drop o s)) → Packing c (k + 1) t (at + z)
    unfolding part_in
    packing_step {o} {z} {t} eo ez et =
        let i = get_or order k 0 in
        let moved = spread (part_in c) (take k (in_order c)) in
        let more : spread (part_in c) (take (k + 1) (in_order c)) ≡ moved ++ part_in c i = spread_more c (in_order c) k (omega (arith, ap length h.sorted)) ∙ ap (λ l. moved ++ part_in c (get_or l k 0)) (sym h.sorted) in
        let eo' : o ≡ offset_in c i = eo ∙ packing_offset in
        let ez' : z ≡ size_in c i = ez ∙ packing_size in
        let same : drop o s ≡ drop o c = ap (drop o) p.out ∙ drop_out c (front_in c) moved o (omega (arith, p.pos, packing_below)) in
        let part : take z (drop o s) ≡ part_in c i = ap (take z) same ∙ ap (λ q. take z (drop q c)) eo' ∙ ap (λ q. take q (drop (offset_in c i) c)) ez' in
        record {
          out = et
              ∙ ap (over put s at) part
              ∙ ap (λ u. over put u at (part_in c i)) p.out
              ∙ ap (λ q. over put (over put c (front_in c) moved) q (part_in c i)) p.pos
              ∙ over-append put c (front_in c) moved (part_in c i)
              ∙ ap (over put c (front_in c)) (sym more);
          pos = omega (arith, p.pos, ap length more, length-append moved (part_in c i), ez', part_length_lem c (offset_in c i) (size_in c i) (sorted_inside h k d));
        }

  pub packing_done : length order ≤ k → (at ≡ end_in c) × (s ≡ over put c (front_in c) (outlines_in c))
  unfolding end_in outlines_in
  packing_done d =
      let all : take k (in_order c) ≡ in_order c = take_all k (in_order c) (omega (arith, ap length h.sorted)) in (
        p.pos ∙ ap (λ l. front_in c + length (spread (part_in c) l)) all ∙ sym (end_length c (in_order c) (front_in c) (in_order_stands c (sound_table c h.sound))),
        p.out ∙ ap (λ l. over put c (front_in c) (spread (part_in c) l)) all,
      )

-- ---- offsets written

pub record Renumbering (c l : List ℕ) (front k : ℕ) (s : List ℕ) (at : ℕ) : Type 0 where
  pub on : renumbered c (drop k l) at s ≡ renumbered c l front c
  pub end : end_from c (drop k l) at ≡ end_from c l front
  pub sizes : (i : ℕ) → size_in s i ≡ size_in c i
  pub long : length s ≡ length c

pub size_kept : (s : List ℕ) (i at j : ℕ) → size_in (over put s (8 + 12 * i) (four_bytes at)) j ≡ size_in s j
unfolding four_bytes
size_kept s i at j = word_out s (8 + 12 * i) (four_bytes at) (12 + 12 * j) (⊎_elim (λ t. inl (omega arith)) (λ t. inr (omega arith)) (less_or j i))

module _ {c l : List ℕ} {front k : ℕ} {s : List ℕ} {at : ℕ} (h : Renumbering c l front k s at) where
  pub renumbering_step : {i z : ℕ} {t : List ℕ} → drop k l ≡ i ∷ drop (k + 1) l → t ≡ over put s (8 + 12 * i) (four_bytes at) → z ≡ size_in t i → Renumbering c l front (k + 1) t (at + z)
  unfolding renumbered end_from
  renumbering_step {i} {z} {t} e et ez =
      let ez' : z ≡ size_in c i = ez ∙ ap (λ u. size_in u i) et ∙ size_kept s i at i ∙ h.sizes i in
      record {
        on = ap (λ q. renumbered c (drop (k + 1) l) (at + q) t) ez' ∙ ap (renumbered c (drop (k + 1) l) (at + size_in c i)) et ∙ ap (λ r. renumbered c r at s) (sym e) ∙ h.on;
        end = ap (λ q. end_from c (drop (k + 1) l) (at + q)) ez' ∙ ap (λ r. end_from c r at) (sym e) ∙ h.end;
        sizes = λ j. ap (λ u. size_in u j) et ∙ size_kept s i at j ∙ h.sizes j;
        long = ap length et ∙ over-length s (8 + 12 * i) (four_bytes at) ∙ h.long;
      }

  pub renumbering_at : {b : ℕ} → end_from c l front ≤ b → at ≤ b
  renumbering_at b = omega (arith, end_from_lem c (drop k l) at, h.end)

  pub renumbering_done : drop k l ≡ [] → s ≡ renumbered c l front c
  unfolding renumbered
  renumbering_done e = ap (λ r. renumbered c r at s) (sym e) ∙ h.on

-- ---- where they would end

pub end_next : (c : List ℕ) {d : List ℕ} {i : ℕ} {rest : List ℕ} (at : ℕ) {z e : ℕ} → end_from c d at ≡ e → d ≡ i ∷ rest → z ≡ size_in c i → end_from c rest (at + z) ≡ e
unfolding end_from
end_next c {d} {i} {rest} at f r ez = ap (λ q. end_from c rest (at + q)) ez ∙ ap (λ l. end_from c l at) (sym r) ∙ f

pub end_last : (c : List ℕ) {d : List ℕ} {at e : ℕ} → end_from c d at ≡ e → d ≡ [] → at ≡ e
unfolding end_from
end_last c {d} {at} f r = ap (λ l. end_from c l at) (sym r) ∙ f

-- ---- gaps

module _ (c : List ℕ) (n : ℕ) {d : List ℕ} (at : ℕ) {g : Option ℕ} (e : gap_from c n d at ≡ g) where
  pub gap_fitting : {i o : ℕ} {rest : List ℕ} → d ≡ i ∷ rest → o ≡ offset_in c i → at + n ≤ o → Some at ≡ g
  unfolding gap_from
  gap_fitting {i} {o} {rest} r eo h =
      let t : gap_from c n (i ∷ rest) at ≡ Some at = rw (le-leb (at + n) (offset_in c i) (omega arith), gap_from) in
      sym t ∙ ap (λ l. gap_from c n l at) (sym r) ∙ e

  pub gap_past : {i o z : ℕ} {rest : List ℕ} → d ≡ i ∷ rest → o ≡ offset_in c i → z ≡ size_in c i → o < at + n → gap_from c n rest (o + z) ≡ g
  unfolding gap_from
  gap_past {i} {o} {z} {rest} r eo ez h =
      let t : gap_from c n (i ∷ rest) at ≡ gap_from c n rest (offset_in c i + size_in c i) = rw (lt-leb (at + n) (offset_in c i) (omega arith), gap_from) in
      ap (gap_from c n rest) (omega arith) ∙ sym t ∙ ap (λ l. gap_from c n l at) (sym r) ∙ e

  pub gap_last : d ≡ [] → at + n ≤ length c → Some at ≡ g
  unfolding gap_from
  gap_last r h =
      let t : gap_from c n [] at ≡ Some at = rw (le-leb (at + n) (length c) h, gap_from) in
      sym t ∙ ap (λ l. gap_from c n l at) (sym r) ∙ e

  pub gap_none : d ≡ [] → length c < at + n → None ≡ g
  unfolding gap_from
  gap_none r h =
      let t : gap_from c n [] at ≡ None = rw (lt-leb (at + n) (length c) h, gap_from) in
      sym t ∙ ap (λ l. gap_from c n l at) (sym r) ∙ e

pub nothing_at : {at : ℕ} → None ≡ Some at → ⊥
nothing_at e = let z : ◌≡◌ {A = ℕ} 0 1 = cc in omega arith

pub at_same : {a b : ℕ} → Some a ≡ Some b → a ≡ b
at_same e = cc

-- the place of a gap that is found ends inside the chunk
pub gap_room : (c : List ℕ) (n : ℕ) (l : List ℕ) (from : ℕ) {at : ℕ} → StandsFrom c from l → gap_from c n l from ≡ Some at → at + n ≤ length c
unfolding gap_from
gap_room c n [] from {at} h e = pick (less_or (length c) (from + n))
  where
    pick : (length c < from + n) ⊎ (from + n ≤ length c) → at + n ≤ length c
    pick (inl t) = let q : None ≡ Some at = gap_none c n from refl refl t ∙ e in absurd (nothing_at q)
    pick (inr t) = let q : Some from ≡ Some at = gap_last c n from refl refl t ∙ e in rw (at_same q) at t
gap_room c n (i ∷ l) from {at} h e = pick (less_or (offset_in c i) (from + n)) (gap_room c n l (offset_in c i + size_in c i) {at = at} (stands_next h))
  where
    pick : (offset_in c i < from + n) ⊎ (from + n ≤ offset_in c i) → (gap_from c n l (offset_in c i + size_in c i) ≡ Some at → at + n ≤ length c) → at + n ≤ length c
    pick (inl t) r = r (gap_past c n from refl {rest = l} refl refl refl t ∙ e)
    pick (inr t) r = let q : Some from ≡ Some at = gap_fitting c n from refl {rest = l} refl refl t ∙ e in let z : from + n ≤ length c = omega (arith, h.inside.0) in rw (at_same q) at z

module _ {c order : List ℕ} (h : Sorted c order) (n : ℕ) where
  pub gap_found : {g : Option ℕ} → g ≡ gap_from c n order (front_in c) → g ≡ gap_in c n
  unfolding gap_in
  gap_found e = e ∙ ap (λ l. gap_from c n l (front_in c)) h.sorted

  pub found_room : {at : ℕ} → Some at ≡ gap_in c n → at + n ≤ length c
  unfolding gap_in
  found_room e = gap_room c n (in_order c) (front_in c) (in_order_stands c (sound_table c h.sound)) (sym e)
