-- When a table is damaged: one law for each case of a test, and what a sound table says of every entry. Assumes nothing.
use mathlib.Core.Path.{◌≡◌, refl, sym, ap, ◌∙◌}
use mathlib.Core.Bool.{Bool, true, false, not}
use mathlib.Core.Logic.{◌⊎◌, inl, inr, ⊎_elim}
use mathlib.Core.List.{List}
use Prim.Native.Nat.{ℕ, ◌+◌, ◌≤◌, ◌<◌}
use native.Mathlib.Omega.{arith}
use borrow.Author.Tests.{lt-ltb, le-ltb, eq-eqb, ne_eqb, ltb-false, eqb-false}
use lib.Dec.{ltb, eqb}
use lib.ListN.{length}
use Rattle.chunk_table.specs.Search.{any_below}
use Rattle.chunk_table.specs.Tables.{entry_count, front_in, key_in, offset_in, size_in, empty_at, used_at, outside_at, overlap, clash, spoilt, damaged_in, holds_key}
use Rattle.chunk_table.proofs.Below.{test, less_or, or_not, or_neither, and_not, any_none, any_not}

-- ---- an entry in use, or empty

pub empty_used : (c : List ℕ) (i : ℕ) {z : ℕ} → z ≡ size_in c i → z ≡ 0 → used_at c i ≡ false
unfolding used_at empty_at
empty_used c i e h = rw (eq-eqb (size_in c i) 0 (sym e ∙ h))

pub some_used : (c : List ℕ) (i : ℕ) {z : ℕ} → z ≡ size_in c i → (z ≡ 0 → ⊥) → used_at c i ≡ true
unfolding used_at empty_at
some_used c i e h = rw (ne_eqb (size_in c i) 0 (λ f. h (e ∙ f)))

pub used_some : (c : List ℕ) (i : ℕ) → used_at c i ≡ true → 0 < size_in c i
unfolding used_at empty_at
used_some c i h = ⊎_elim (λ l. l) (λ l. let n : ◌≡◌ {A = ℕ} 0 1 = ap (λ (b : Bool). elim b [ true ↦ 1 | false ↦ 0 ]) (sym (ap not (eq-eqb (size_in c i) 0 (omega arith))) ∙ h) in absurd (omega arith)) (less_or 0 (size_in c i))

pub some_is_used : (c : List ℕ) (i : ℕ) → 0 < size_in c i → used_at c i ≡ true
some_is_used c i h = some_used c i refl (λ e. omega arith)

-- ---- a key's entry

module _ (c : List ℕ) (i : ℕ) where
  pub holds_empty : (key : ℕ) → used_at c i ≡ false → false ≡ holds_key c key i
  unfolding holds_key
  holds_empty key h = rw h

  pub holds_used : (key : ℕ) → used_at c i ≡ true → eqb (key_in c i) key ≡ holds_key c key i
  unfolding holds_key
  holds_used key h = rw h

-- ---- damaged

module _ (c : List ℕ) where
  pub damaged_long : 4294967295 < length c → true ≡ damaged_in c
  unfolding damaged_in
  damaged_long h = rw (lt-ltb 4294967295 (length c) h)

  pub damaged_short : length c ≤ 4294967295 → length c < 4 → true ≡ damaged_in c
  unfolding damaged_in
  damaged_short a h = rw (le-ltb 4294967295 (length c) a, lt-ltb (length c) 4 h)

  pub damaged_many : length c ≤ 4294967295 → 4 ≤ length c → 1024 < entry_count c → true ≡ damaged_in c
  unfolding damaged_in
  damaged_many a b h = rw (le-ltb 4294967295 (length c) a, le-ltb (length c) 4 b, lt-ltb 1024 (entry_count c) h)

  pub damaged_past : length c ≤ 4294967295 → 4 ≤ length c → entry_count c ≤ 1024 → length c < front_in c → true ≡ damaged_in c
  unfolding damaged_in
  damaged_past a b d h = rw (le-ltb 4294967295 (length c) a, le-ltb (length c) 4 b, le-ltb 1024 (entry_count c) d, lt-ltb (length c) (front_in c) h)

  pub damaged_rest : length c ≤ 4294967295 → 4 ≤ length c → entry_count c ≤ 1024 → front_in c ≤ length c → any_below (spoilt c) (entry_count c) ≡ damaged_in c
  unfolding damaged_in
  damaged_rest a b d e = rw (le-ltb 4294967295 (length c) a, le-ltb (length c) 4 b, le-ltb 1024 (entry_count c) d, le-ltb (length c) (front_in c) e)

-- ---- a sound table

-- one stands before the other
abbrev pub EntriesApart : List ℕ → ℕ → ℕ → Type 0
EntriesApart c i j = (offset_in c i + size_in c i ≤ offset_in c j) ⊎ (offset_in c j + size_in c j ≤ offset_in c i)

pub record SoundTable (c : List ℕ) : Type 0 where
  pub small : length c ≤ 4294967295
  pub head : 4 ≤ length c
  pub few : entry_count c ≤ 1024
  pub table : front_in c ≤ length c
  pub low : (j : ℕ) → j < entry_count c → used_at c j ≡ true → front_in c ≤ offset_in c j
  pub high : (j : ℕ) → j < entry_count c → used_at c j ≡ true → offset_in c j + size_in c j ≤ length c
  pub keys : (i j : ℕ) → i < j → j < entry_count c → used_at c i ≡ true → used_at c j ≡ true → key_in c i ≡ key_in c j → ⊥
  pub apart : (i j : ℕ) → i < j → j < entry_count c → used_at c i ≡ true → used_at c j ≡ true → EntriesApart c i j

pub sound_table : (c : List ℕ) → damaged_in c ≡ false → SoundTable c
unfolding damaged_in spoilt outside_at clash overlap
sound_table c h =
    let h₁ = or_not (ltb 4294967295 (length c)) _ h in
    let h₂ = or_not (ltb (length c) 4) _ h₁.1 in
    let h₃ = or_not (ltb 1024 (entry_count c)) _ h₂.1 in
    let h₄ = or_not (ltb (length c) (front_in c)) _ h₃.1 in
    let each : (j : ℕ) → j < entry_count c → used_at c j ≡ true → (outside_at c j ≡ false) × (any_below (clash c j) j ≡ false) =
    λ j l u. or_not (outside_at c j) (any_below (clash c j) j) (and_not _ u (any_not (spoilt c) (entry_count c) h₄.1 j l)) in
    let stand : (j : ℕ) → j < entry_count c → used_at c j ≡ true → (ltb (offset_in c j) (front_in c) ≡ false) × (ltb (length c) (offset_in c j + size_in c j) ≡ false) =
    λ j l u. or_not (ltb (offset_in c j) (front_in c)) (ltb (length c) (offset_in c j + size_in c j)) (each j l u).0 in
    let pair : (i j : ℕ) → i < j → j < entry_count c → used_at c i ≡ true → used_at c j ≡ true → (eqb (key_in c i) (key_in c j) ≡ false) × (overlap c i j ≡ false) =
    λ i j l m u v. or_not (eqb (key_in c i) (key_in c j)) (overlap c i j) (and_not _ u (any_not (clash c j) j (each j m v).1 i l)) in
    record {
      small = ltb-false 4294967295 (length c) h₁.0;
      head = ltb-false (length c) 4 h₂.0;
      few = ltb-false 1024 (entry_count c) h₃.0;
      table = ltb-false (length c) (front_in c) h₄.0;
      low = λ j l u. ltb-false (offset_in c j) (front_in c) (stand j l u).0;
      high = λ j l u. ltb-false (length c) (offset_in c j + size_in c j) (stand j l u).1;
      keys = λ i j l m u v. eqb-false (key_in c i) (key_in c j) (pair i j l m u v).0;
      apart = λ i j l m u v. ⊎_elim
          (λ t. inl (ltb-false (offset_in c j) (offset_in c i + size_in c i) (and_not _ (lt-ltb (offset_in c i) (offset_in c j + size_in c j) t) (pair i j l m u v).1)))
          (λ t. inr t)
          (less_or (offset_in c i) (offset_in c j + size_in c j));
    }

overlap_not : (c : List ℕ) (i j : ℕ) → EntriesApart c i j → overlap c i j ≡ false
unfolding overlap
overlap_not c i j (inl h) = ⊎_elim (λ t. rw t (le-ltb (offset_in c j) (offset_in c i + size_in c i) h)) (λ t. rw t) (test (ltb (offset_in c i) (offset_in c j + size_in c j)))
overlap_not c i j (inr h) = rw (le-ltb (offset_in c i) (offset_in c j + size_in c j) h)

pub table_sound : (c : List ℕ) → SoundTable c → damaged_in c ≡ false
unfolding spoilt outside_at clash
table_sound c s =
    sym (damaged_rest c s.small s.head s.few s.table)
    ∙ any_none (spoilt c) (entry_count c) λ j l.
    ⊎_elim
    (λ u. rw u (or_neither
    (or_neither (le-ltb (offset_in c j) (front_in c) (s.low j l u)) (le-ltb (length c) (offset_in c j + size_in c j) (s.high j l u)))
    (any_none (clash c j) j λ i k.
    ⊎_elim
    (λ v. rw v (or_neither (ne_eqb (key_in c i) (key_in c j) (s.keys i j k l v u)) (overlap_not c i j (s.apart i j k l v u))))
    (λ v. rw v)
    (test (used_at c i)))))
    (λ u. rw u)
    (test (used_at c j))
