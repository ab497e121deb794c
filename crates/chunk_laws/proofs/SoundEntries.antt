-- A sound table of which one entry is written anew: where the new entry is empty, or stands apart from the others, the table is sound. Assumes nothing.
use mathlib.Core.Path.{◌≡◌, sym, ap, ◌∙◌}
use mathlib.Core.Bool.{true}
use mathlib.Core.Logic.{◌⊎◌, inl, inr, ⊎_elim}
use mathlib.Core.List.{List}
use Prim.Native.Nat.{ℕ, ◌+◌, ◌≤◌, ◌<◌}
use native.Mathlib.Omega.{arith}
use lib.ListN.{length}
use Rattle.chunk_table.specs.Tables.{entry_count, front_in, key_in, offset_in, size_in, used_at}
use Rattle.chunk_table.proofs.Below.{same_or}
use Rattle.chunk_table.proofs.SoundTables.{SoundTable}
use Rattle.chunk_laws.proofs.Entries.{Over, over_all, over_count, over_key, over_offset, over_size, over_used}

module _ (c : List ℕ) (s : SoundTable c) (i a : ℕ) (vs ws : List ℕ) (twelve : length ws ≡ 12) (within : i < entry_count c) (behind : front_in c ≤ a) where
  abbrev pub Anew : List ℕ
  Anew = Over c i a vs ws twelve within s.table behind

  -- how the new entry stands, where it is in use
  pub record Fresh : Type 0 where
    pub low : front_in c ≤ offset_in Anew i
    pub high : offset_in Anew i + size_in Anew i ≤ length c
    pub keys : (j : ℕ) → j < entry_count c → used_at c j ≡ true → (j ≡ i → ⊥) → key_in c j ≡ key_in Anew i → ⊥
    pub apart : (j : ℕ) → j < entry_count c → used_at c j ≡ true → (j ≡ i → ⊥) → (offset_in c j + size_in c j ≤ offset_in Anew i) ⊎ (offset_in Anew i + size_in Anew i ≤ offset_in c j)

  count : entry_count Anew ≡ entry_count c
  count = over_count c i a vs ws twelve within s.table behind

  long : length Anew ≡ length c
  long = over_all c i a vs ws twelve within s.table behind

  module _ (j : ℕ) (d : j < entry_count Anew) (n : j ≡ i → ⊥) where
    d' : j < entry_count c
    d' = omega (arith, count)

    key' : key_in Anew j ≡ key_in c j
    key' = over_key c i a vs ws twelve within s.table behind j d' n

    offset' : offset_in Anew j ≡ offset_in c j
    offset' = over_offset c i a vs ws twelve within s.table behind j d' n

    size' : size_in Anew j ≡ size_in c j
    size' = over_size c i a vs ws twelve within s.table behind j d' n

    used' : used_at Anew j ≡ true → used_at c j ≡ true
    used' u = sym (over_used c i a vs ws twelve within s.table behind j d' n) ∙ u

  module _ (f : used_at Anew i ≡ true → Fresh) where
    pub anew_sound : SoundTable Anew
    anew_sound = record {
      small = omega (arith, long, s.small);
      head = omega (arith, long, s.head);
      few = omega (arith, count, s.few);
      table = omega (arith, count, long, s.table);
      low = λ j d u. ⊎_elim
          (λ e. omega (arith, count, ap (offset_in Anew) e, (f (ap (used_at Anew) (sym e) ∙ u)).low))
          (λ n. omega (arith, count, offset' j d n, s.low j (d' j d n) (used' j d n u)))
          (same_or j i);
      high = λ j d u. ⊎_elim
          (λ e. omega (arith, long, ap (offset_in Anew) e, ap (size_in Anew) e, (f (ap (used_at Anew) (sym e) ∙ u)).high))
          (λ n. omega (arith, long, offset' j d n, size' j d n, s.high j (d' j d n) (used' j d n u)))
          (same_or j i);
      keys = λ x y l d u v k. ⊎_elim
          (λ e. let n : y ≡ i → ⊥ = λ g. omega arith in (f (ap (used_at Anew) (sym e) ∙ u)).keys y (d' y d n) (used' y d n v) n (sym (key' y d n) ∙ sym k ∙ ap (key_in Anew) e))
          (λ n. ⊎_elim
          (λ g. let b : x < entry_count Anew = omega arith in (f (ap (used_at Anew) (sym g) ∙ v)).keys x (d' x b n) (used' x b n u) n (sym (key' x b n) ∙ k ∙ ap (key_in Anew) g))
          (λ m. let b : x < entry_count Anew = omega arith in s.keys x y l (d' y d m) (used' x b n u) (used' y d m v) (sym (key' x b n) ∙ k ∙ key' y d m))
          (same_or y i))
          (same_or x i);
      apart = λ x y l d u v. ⊎_elim
          (λ e. let n : y ≡ i → ⊥ = λ g. omega arith in
          ⊎_elim
          (λ t. inr (omega (arith, offset' y d n, size' y d n, ap (offset_in Anew) e)))
          (λ t. inl (omega (arith, offset' y d n, ap (offset_in Anew) e, ap (size_in Anew) e)))
          ((f (ap (used_at Anew) (sym e) ∙ u)).apart y (d' y d n) (used' y d n v) n))
          (λ n. let b : x < entry_count Anew = omega arith in
          ⊎_elim
          (λ g. ⊎_elim
          (λ t. inl (omega (arith, offset' x b n, size' x b n, ap (offset_in Anew) g)))
          (λ t. inr (omega (arith, offset' x b n, ap (offset_in Anew) g, ap (size_in Anew) g)))
          ((f (ap (used_at Anew) (sym g) ∙ v)).apart x (d' x b n) (used' x b n u) n))
          (λ m. ⊎_elim
          (λ t. inl (omega (arith, offset' x b n, size' x b n, offset' y d m)))
          (λ t. inr (omega (arith, offset' x b n, offset' y d m, size' y d m)))
          (s.apart x y l (d' y d m) (used' x b n u) (used' y d m v)))
          (same_or y i))
          (same_or x i);
    }
