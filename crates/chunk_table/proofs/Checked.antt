-- A table checked in order of offset and in order of key is sound, and only a sound one passes. Assumes nothing.
use mathlib.Core.Path.{◌≡◌, refl, sym, ap, ◌∙◌}
use mathlib.Core.Bool.{Bool, true, false}
use mathlib.Core.Logic.{◌⊎◌, inl, inr, ⊎_elim}
use mathlib.Core.List.{List, [], ◌∷◌}
use Prim.Native.Nat.{ℕ, suc, ◌+◌, ◌-◌, ◌≤◌, ◌<◌}
use native.Mathlib.Omega.{arith}
use borrow.Author.Tests.{lt-ltb, le-ltb, le-leb, eq-eqb, ne_eqb, leb-true}
use lib.Dec.{leb}
use lib.ListN.{length, get_or, take, drop}
use lib.Seq.{take_all}
use Rattle.chunk_table.specs.Orders.{EntriesIn, strung_in, twice_from, twice_in}
use Rattle.chunk_table.specs.Search.{ordered_on}
use Rattle.chunk_table.specs.Tables.{entry_count, front_in, key_in, offset_in, size_in, used_at, damaged_in, in_order}
use Rattle.chunk_table.proofs.Below.{not_both, test, less_or, same_or}
use Rattle.chunk_table.proofs.Ordering.{All, Pairs, all_map, Ordered, ordered_is, ordered_pairs, every_ordered, each_ordered}
use Rattle.chunk_table.proofs.SoundTables.{EntriesApart, SoundTable, sound_table, table_sound}
use Rattle.chunk_table.proofs.Standing.{Before, StandsFrom, stands_next, in_order_stands}

-- ---- one behind another

module _ (c : List ℕ) {d : List ℕ} (at : ℕ) {g : Bool} (e : strung_in c d at ≡ g) where
  pub strung_low : {i o : ℕ} {rest : List ℕ} → d ≡ i ∷ rest → o ≡ offset_in c i → o < at → false ≡ g
  unfolding strung_in
  strung_low {i} {o} {rest} r eo h =
      let t : strung_in c (i ∷ rest) at ≡ false = rw (lt-ltb (offset_in c i) at (omega arith), strung_in) in
      sym t ∙ ap (λ l. strung_in c l at) (sym r) ∙ e

  pub strung_next : {i o z : ℕ} {rest : List ℕ} → d ≡ i ∷ rest → o ≡ offset_in c i → z ≡ size_in c i → at ≤ o → strung_in c rest (o + z) ≡ g
  unfolding strung_in
  strung_next {i} {o} {z} {rest} r eo ez h =
      let t : strung_in c (i ∷ rest) at ≡ strung_in c rest (offset_in c i + size_in c i) = rw (le-ltb (offset_in c i) at (omega arith), strung_in) in
      ap (strung_in c rest) (omega arith) ∙ sym t ∙ ap (λ l. strung_in c l at) (sym r) ∙ e

  pub strung_last : d ≡ [] → leb at (length c) ≡ g
  unfolding strung_in
  strung_last r = ap (λ l. strung_in c l at) (sym r) ∙ e

strung_stands : (c l : List ℕ) (at : ℕ) → strung_in c l at ≡ true → StandsFrom c at l
unfolding strung_in
strung_stands c [] at e = record { from = tt; each = tt; inside = tt; upto = leb-true at (length c) e }
strung_stands c (i ∷ l) at e = pick (less_or (offset_in c i) at) (strung_stands c l (offset_in c i + size_in c i))
  where
    pick : (offset_in c i < at) ⊎ (at ≤ offset_in c i) → (strung_in c l (offset_in c i + size_in c i) ≡ true → StandsFrom c (offset_in c i + size_in c i) l) → StandsFrom c at (i ∷ l)
    pick (inl t) r = absurd (not_both e (sym (strung_low c at refl {rest = l} refl refl t)))
    pick (inr t) r =
        let s = r (strung_next c at refl {rest = l} refl refl refl t ∙ e) in
        record {
          from = (t, all_map (λ j. offset_in c i + size_in c i ≤ offset_in c j) (λ j. at ≤ offset_in c j) (λ j d. omega arith) l s.from);
          each = (s.from, s.each);
          inside = (s.upto, s.inside);
          upto = omega (arith, s.upto);
        }

stands_strung : (c l : List ℕ) (at : ℕ) → StandsFrom c at l → strung_in c l at ≡ true
unfolding strung_in
stands_strung c [] at s = le-leb at (length c) s.upto
stands_strung c (i ∷ l) at s = rw (le-ltb (offset_in c i) at s.from.0, strung_in) (stands_strung c l (offset_in c i + size_in c i) (stands_next s))

-- ---- one key twice

module _ (c : List ℕ) (i : ℕ) {d : List ℕ} {g : Bool} (e : twice_from c i d ≡ g) where
  pub twice_here : {j : ℕ} {rest : List ℕ} → d ≡ j ∷ rest → key_in c i ≡ key_in c j → true ≡ g
  unfolding twice_from
  twice_here {j} {rest} r h =
      let t : twice_from c i (j ∷ rest) ≡ true = rw (eq-eqb (key_in c i) (key_in c j) h, twice_from) in
      sym t ∙ ap (twice_from c i) (sym r) ∙ e

  pub twice_next : {j q : ℕ} {rest : List ℕ} → d ≡ j ∷ rest → q ≡ j → (key_in c i ≡ key_in c j → ⊥) → twice_from c q rest ≡ g
  unfolding twice_from
  twice_next {j} {q} {rest} r eq h =
      let t : twice_from c i (j ∷ rest) ≡ twice_from c j rest = rw (ne_eqb (key_in c i) (key_in c j) h, twice_from) in
      ap (λ n. twice_from c n rest) eq ∙ sym t ∙ ap (twice_from c i) (sym r) ∙ e

  pub twice_last : d ≡ [] → false ≡ g
  unfolding twice_from
  twice_last r = ap (twice_from c i) (sym r) ∙ e

-- an order is its first entry and those behind it
behind_is : (x : ℕ) (l : List ℕ) → take (length (x ∷ l) - 1) (drop 1 (x ∷ l)) ≡ l
behind_is x l = take_all (length (x ∷ l) - 1) l (omega arith)

pub behind_entry : {n : ℕ} (order : List ℕ) → EntriesIn n order → (k : ℕ) → k < length (take (length order - 1) (drop 1 order)) → get_or (take (length order - 1) (drop 1 order)) k 0 < n
behind_entry [] h k d = absurd (omega arith)
behind_entry (x ∷ l) h k d = rw (behind_is x l) (h.entries (suc k) (omega (arith, ap length (behind_is x l))))

pub twice_begun : (c order : List ℕ) → 1 ≤ length order → twice_from c (get_or order 0 0) (take (length order - 1) (drop 1 order)) ≡ twice_in c order
unfolding twice_in
twice_begun c [] h = absurd (omega arith)
twice_begun c (x ∷ l) h = ap (twice_from c x) (behind_is x l)

pub twice_none : (c order : List ℕ) → length order < 1 → false ≡ twice_in c order
unfolding twice_in
twice_none c [] h = refl
twice_none c (x ∷ l) h = absurd (omega arith)

-- in order of key, neighbours with other keys are strictly more and more
strict : (c : List ℕ) (i : ℕ) (l : List ℕ) → Ordered (key_in c) (i ∷ l) → twice_from c i l ≡ false → All (λ j. key_in c i < key_in c j) l × Pairs (λ x y. key_in c x < key_in c y) l
unfolding twice_from
strict c i [] o e = (tt, tt)
strict c i (j ∷ l) o e = pick (same_or (key_in c i) (key_in c j)) (strict c j l o.1)
  where
    pick : (key_in c i ≡ key_in c j) ⊎ (key_in c i ≡ key_in c j → ⊥) → (twice_from c j l ≡ false → All (λ x. key_in c j < key_in c x) l × Pairs (λ x y. key_in c x < key_in c y) l)
        → All (λ x. key_in c i < key_in c x) (j ∷ l) × Pairs (λ x y. key_in c x < key_in c y) (j ∷ l)
    pick (inl t) r = absurd (not_both (sym (twice_here c i refl {rest = l} refl t)) e)
    pick (inr n) r =
        let s = r (twice_next c i refl {rest = l} refl refl n ∙ e) in
        let less : key_in c i < key_in c j = ⊎_elim (λ t. t) (λ t. absurd (n (omega (arith, o.0.0)))) (less_or (key_in c i) (key_in c j)) in
        ((less, all_map (λ x. key_in c j < key_in c x) (λ x. key_in c i < key_in c x) (λ x d. omega arith) l s.0), s)

unlike_pairs : (c l : List ℕ) → Pairs (λ x y. key_in c x < key_in c y) l → Pairs (λ x y. key_in c x ≡ key_in c y → ⊥) l
unlike_pairs c [] h = tt
unlike_pairs c (i ∷ l) h = (all_map (λ j. key_in c i < key_in c j) (λ j. key_in c i ≡ key_in c j → ⊥) (λ j d e. omega arith) l h.0, unlike_pairs c l h.1)

once_pairs : (c l : List ℕ) → Ordered (key_in c) l → twice_in c l ≡ false → Pairs (λ x y. key_in c x ≡ key_in c y → ⊥) l
unfolding twice_in
once_pairs c [] o e = tt
once_pairs c (i ∷ l) o e = unlike_pairs c (i ∷ l) (strict c i l o e)

pairs_from : (c : List ℕ) (i : ℕ) (l : List ℕ) → Pairs (λ x y. key_in c x ≡ key_in c y → ⊥) (i ∷ l) → twice_from c i l ≡ false
unfolding twice_from
pairs_from c i [] h = refl
pairs_from c i (j ∷ l) h = rw (ne_eqb (key_in c i) (key_in c j) h.0.0, twice_from) (pairs_from c j l h.1)

pairs_once : (c l : List ℕ) → Pairs (λ x y. key_in c x ≡ key_in c y → ⊥) l → twice_in c l ≡ false
unfolding twice_in
pairs_once c [] h = refl
pairs_once c (i ∷ l) h = pairs_from c i l h

-- ---- the whole check

module _ (c : List ℕ) where
  by_key : List ℕ
  by_key = ordered_on (used_at c) (key_in c) (entry_count c)

  sound_strung : SoundTable c → strung_in c (in_order c) (front_in c) ≡ true
  sound_strung s = stands_strung c (in_order c) (front_in c) (in_order_stands c s)

  sound_once : SoundTable c → twice_in c by_key ≡ false
  unfolding by_key
  sound_once s = pairs_once c by_key (ordered_pairs (used_at c) (key_in c) (λ x y. key_in c x ≡ key_in c y → ⊥) (λ x y n e. n (sym e)) (entry_count c) s.keys)

  before_apart : (l : List ℕ) → Pairs (Before c) l → Pairs (EntriesApart c) l
  before_apart [] h = tt
  before_apart (i ∷ l) h = (all_map (Before c i) (EntriesApart c i) (λ j d. inl d) l h.0, before_apart l h.1)

  checked_sound : length c ≤ 4294967295 → 4 ≤ length c → entry_count c ≤ 1024 → front_in c ≤ length c → strung_in c (in_order c) (front_in c) ≡ true → twice_in c by_key ≡ false → SoundTable c
  unfolding by_key in_order
  checked_sound a b d f e o =
      let s = strung_stands c (in_order c) (front_in c) e in
      record {
        small = a;
        head = b;
        few = d;
        table = f;
        low = every_ordered (used_at c) (offset_in c) (λ j. front_in c ≤ offset_in c j) (entry_count c) s.from;
        high = every_ordered (used_at c) (offset_in c) (λ j. offset_in c j + size_in c j ≤ length c) (entry_count c) s.inside;
        keys = each_ordered (used_at c) (key_in c) (λ x y. key_in c x ≡ key_in c y → ⊥) (λ x y n e. n (sym e)) (entry_count c) (once_pairs c by_key (ordered_is (used_at c) (key_in c) (entry_count c)) o);
        apart = each_ordered (used_at c) (offset_in c) (EntriesApart c) (λ x y h. ⊎_elim (λ t. inr t) (λ t. inl t) h) (entry_count c) (before_apart (in_order c) s.each);
      }

  -- not one behind another
  pub checked_not : {l : List ℕ} {front : ℕ} {g : Bool} → l ≡ in_order c → front ≡ front_in c → g ≡ strung_in c l front → g ≡ false → true ≡ damaged_in c
  checked_not {l} {front} el ef eg e =
      ⊎_elim
      (λ h. sym h)
      (λ h. absurd (not_both (sound_strung (sound_table c h)) (sym (eg ∙ ap (λ t. strung_in c t front) el ∙ ap (strung_in c (in_order c)) ef) ∙ e)))
      (test (damaged_in c))

  -- one behind another: then the keys decide
  module _ {l : List ℕ} {front : ℕ} {g : Bool} (a : length c ≤ 4294967295) (b : 4 ≤ length c) (d : entry_count c ≤ 1024) (f : front_in c ≤ length c)
      (el : l ≡ in_order c) (ef : front ≡ front_in c) (eg : g ≡ strung_in c l front) (e : g ≡ true) where
    pub checked_so : {n : ℕ} {t : List ℕ} {x : Bool} → n ≡ entry_count c → t ≡ ordered_on (used_at c) (key_in c) n → x ≡ twice_in c t → x ≡ damaged_in c
    unfolding by_key
    checked_so {n} {t} {x} en et ex =
        let y : x ≡ twice_in c by_key = ex ∙ ap (twice_in c) (et ∙ ap (ordered_on (used_at c) (key_in c)) en) in
        let s : strung_in c (in_order c) (front_in c) ≡ true = sym (eg ∙ ap (λ t. strung_in c t front) el ∙ ap (strung_in c (in_order c)) ef) ∙ e in
        ⊎_elim
        (λ h. y ∙ h ∙ ⊎_elim (λ k. sym k) (λ k. absurd (not_both h (sound_once (sound_table c k)))) (test (damaged_in c)))
        (λ h. y ∙ h ∙ sym (table_sound c (checked_sound a b d f s h)))
        (test (twice_in c by_key))
