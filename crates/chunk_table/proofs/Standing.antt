-- Entries that stand one before another in a chunk: where they end, and what is left of an order that is gone through. Assumes nothing.
use mathlib.Core.Path.{◌≡◌}
use mathlib.Core.Bool.{true}
use mathlib.Core.Logic.{inl, inr, ⊎_elim}
use mathlib.Core.List.{List, [], ◌∷◌}
use Prim.Native.Nat.{ℕ, ◌+◌, ◌≤◌, ◌<◌}
use native.Mathlib.Numerals.{add-one}
use native.Mathlib.Omega.{arith}
use lib.ListN.{length, get_or, drop, drop_of_length-le}
use lib.Seq.{drop-cons}
use Rattle.chunk_table.specs.Tables.{entry_count, front_in, offset_in, size_in, used_at, in_order}
use Rattle.chunk_table.proofs.Ordering.{All, Pairs, all_map, Ordered, ordered_all, ordered_pairs, ordered_is}
use Rattle.chunk_table.proofs.SoundTables.{EntriesApart, SoundTable, used_some}

-- one ends before another begins
abbrev pub Before : List ℕ → ℕ → ℕ → Type 0
Before c i j = offset_in c i + size_in c i ≤ offset_in c j

-- entries of which none begins before a place, each before those behind it, all inside the chunk
pub record StandsFrom (c : List ℕ) (at : ℕ) (l : List ℕ) : Type 0 where
  pub from : All (λ i. at ≤ offset_in c i) l
  pub each : Pairs (Before c) l
  pub inside : All (λ i. offset_in c i + size_in c i ≤ length c) l
  pub upto : at ≤ length c

-- past the first, and from a lower place
pub stands_next : {c : List ℕ} {at i : ℕ} {l : List ℕ} → StandsFrom c at (i ∷ l) → StandsFrom c (offset_in c i + size_in c i) l
stands_next h = record { from = h.each.0; each = h.each.1; inside = h.inside.1; upto = h.inside.0 }

pub stands_lower : {c : List ℕ} {at : ℕ} (to : ℕ) {l : List ℕ} → to ≤ at → StandsFrom c at l → StandsFrom c to l
stands_lower {c} {at} to {l} e h = record {
  from = all_map (λ i. at ≤ offset_in c i) (λ i. to ≤ offset_in c i) (λ i d. omega arith) l h.from;
  each = h.each;
  inside = h.inside;
  upto = omega (arith, h.upto);
}

pub stands_packed : {c : List ℕ} {at i : ℕ} {l : List ℕ} → StandsFrom c at (i ∷ l) → StandsFrom c (at + size_in c i) l
stands_packed h = stands_lower _ (omega (arith, h.from.0)) (stands_next h)

-- ---- of a sound table

before_all : (c : List ℕ) (i : ℕ) (l : List ℕ) → All (EntriesApart c i) l → All (λ j. offset_in c i ≤ offset_in c j) l → All (λ j. 0 < size_in c j) l → All (Before c i) l
before_all c i [] a b d = tt
before_all c i (j ∷ l) a b d = (⊎_elim (λ h. h) (λ h. absurd (omega (arith, b.0, d.0))) a.0, before_all c i l a.1 b.1 d.1)

before_pairs : (c : List ℕ) (l : List ℕ) → Pairs (EntriesApart c) l → Ordered (offset_in c) l → All (λ j. 0 < size_in c j) l → Pairs (Before c) l
before_pairs c [] a b d = tt
before_pairs c (i ∷ l) a b d = (before_all c i l a.0 b.0 d.1, before_pairs c l a.1 b.1 d.1)

module _ (c : List ℕ) (s : SoundTable c) where
  pub in_order_all : (P : ℕ → Type 0) → ((i : ℕ) → i < entry_count c → used_at c i ≡ true → P i) → All P (in_order c)
  unfolding in_order
  in_order_all P h = ordered_all (used_at c) (offset_in c) P (entry_count c) h

  pub in_order_stands : StandsFrom c (front_in c) (in_order c)
  unfolding in_order
  in_order_stands = record {
    from = in_order_all (λ i. front_in c ≤ offset_in c i) s.low;
    each = before_pairs c (in_order c)
        (ordered_pairs (used_at c) (offset_in c) (EntriesApart c) (λ x y h. ⊎_elim (λ t. inr t) (λ t. inl t) h) (entry_count c) s.apart)
        (ordered_is (used_at c) (offset_in c) (entry_count c))
        (in_order_all (λ i. 0 < size_in c i) (λ i d u. used_some c i u));
    inside = in_order_all (λ i. offset_in c i + size_in c i ≤ length c) s.high;
    upto = s.table;
  }

-- ---- what is left of an order

pub rest_next : (order : List ℕ) (k : ℕ) → k < length order → drop k order ≡ get_or order k 0 ∷ drop (k + 1) order
rest_next order k h = rw (add-one k, drop-cons order k 0 h)

pub rest_none : (order : List ℕ) (k : ℕ) → length order ≤ k → drop k order ≡ []
rest_none order k h = drop_of_length-le order {i = k} h
