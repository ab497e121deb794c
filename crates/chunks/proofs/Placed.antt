-- An outline put at its place, and a whole chunk compacted. Assumes nothing.
use Rattle.std.specs.Prelude.{Option, Some, None}
use mathlib.Core.Path.{◌≡◌, refl, sym, ap, ◌∙◌}
use mathlib.Core.Logic.{inl}
use mathlib.Core.List.{List, [], ◌∷◌, ◌++◌, append-nil}
use Prim.Native.Nat.{ℕ, ◌+◌, ◌-◌, ◌*◌, ◌≤◌}
use native.Mathlib.Omega.{arith}
use lib.ListN.{length, take, replicate, length-append, length-replicate, drop_of_length-le}
use lib.Seq.{sets-eq}
use Rattle.runs.specs.Runs.{over, put}
use Rattle.words.specs.Words.{four_bytes, word_from}
use Rattle.chunk_table.specs.Orders.{Sorted}
use Rattle.chunk_table.specs.Tables.{front_in, size_in, in_order, empty_entry}
use Rattle.chunks.specs.Calls.{added_in}
use Rattle.chunks.specs.Chunks.{end_from, end_in, outlines_in, packed_of, renumbered, compacted_of, with_outline}
use Rattle.runs.proofs.Laws.{over-append}
use Rattle.runs.proofs.Written.{over_sets}
use Rattle.chunk_table.proofs.Ordering.{All}
use Rattle.chunk_table.proofs.SoundTables.{SoundTable, sound_table}
use Rattle.chunk_table.proofs.Standing.{in_order_all, in_order_stands}
use Rattle.chunks.proofs.Ends.{end_length, end_upto}
use Rattle.chunks.proofs.Laid.{over-length, word_out}

pub outlined : (c : List ℕ) (i key at : ℕ) (made : List ℕ) {c₁ c₂ c₃ c₄ : List ℕ} → c₁ ≡ over put c at made → c₂ ≡ over put c₁ (4 + 12 * i) (four_bytes key) → c₃ ≡ over put c₂ (4 + 12 * i + 4) (four_bytes at) → c₄ ≡ over put c₃ (4 + 12 * i + 8) (four_bytes (length made))
    → c₄ ≡ with_outline c i key at made
unfolding with_outline four_bytes
outlined c i key at made {c₁} {c₂} {c₃} {c₄} e f g h =
    let e₈ : 4 + 12 * i + 8 ≡ 4 + 12 * i + 4 + 4 = omega arith in
    h
    ∙ ap (λ s. over put s (4 + 12 * i + 8) (four_bytes (length made))) g
    ∙ ap (λ k. over put (over put c₂ (4 + 12 * i + 4) (four_bytes at)) k (four_bytes (length made))) e₈
    ∙ over-append put c₂ (4 + 12 * i + 4) (four_bytes at) (four_bytes (length made))
    ∙ ap (λ s. over put s (4 + 12 * i + 4) (four_bytes at ++ four_bytes (length made))) f
    ∙ over-append put c₁ (4 + 12 * i) (four_bytes key) (four_bytes at ++ four_bytes (length made))
    ∙ ap (λ s. over put s (4 + 12 * i) (four_bytes key ++ (four_bytes at ++ four_bytes (length made)))) e

-- ---- compacted

module _ (c : List ℕ) (snd : SoundTable c) where
  end_is : end_in c ≡ front_in c + length (outlines_in c)
  unfolding end_in outlines_in
  end_is = end_length c (in_order c) (front_in c) (in_order_stands c snd)

  pub end_inside : end_in c ≤ length c
  unfolding end_in
  end_inside = end_upto c (in_order c) (front_in c) (in_order_stands c snd)

  pub packed_is : {s : List ℕ} → s ≡ over put (over put c (front_in c) (outlines_in c)) (end_in c) (replicate (length c - end_in c) 0) → s ≡ packed_of c
  unfolding packed_of
  packed_is e =
      let X = outlines_in c in
      let Z : List ℕ = replicate (length c - end_in c) 0 in
      let all : front_in c + length (X ++ Z) ≡ length c = omega (arith, length-append X Z, length-replicate {A = ℕ} (length c - end_in c) 0, end_is, end_inside) in
      e
      ∙ ap (λ k. over put (over put c (front_in c) X) k Z) end_is
      ∙ over-append put c (front_in c) X Z
      ∙ over_sets c (front_in c) (X ++ Z)
      ∙ sets-eq (X ++ Z) c (front_in c) (omega arith)
      ∙ ap (λ l. take (front_in c) c ++ (X ++ Z) ++ l) (drop_of_length-le c {i = front_in c + length (X ++ Z)} (omega arith))
      ∙ append-nil (take (front_in c) c ++ (X ++ Z))

  -- the table stands as it was
  pub packed_word : {s : List ℕ} (q : ℕ) → s ≡ over put (over put c (front_in c) (outlines_in c)) (end_in c) (replicate (length c - end_in c) 0) → q + 4 ≤ front_in c → word_from s q ≡ word_from c q
  packed_word q e d =
      ap (λ t. word_from t q) e
      ∙ word_out (over put c (front_in c) (outlines_in c)) (end_in c) (replicate (length c - end_in c) 0) q (inl (omega (arith, end_is)))
      ∙ word_out c (front_in c) (outlines_in c) q (inl d)

renumbered_as : (c s : List ℕ) (l : List ℕ) (at : ℕ) (t : List ℕ) → All (λ i. size_in s i ≡ size_in c i) l → renumbered s l at t ≡ renumbered c l at t
unfolding renumbered
renumbered_as c s [] at t h = refl
renumbered_as c s (i ∷ l) at t h = ap (λ z. renumbered s l (at + z) (over put t (8 + 12 * i) (four_bytes at))) h.0 ∙ renumbered_as c s l (at + size_in c i) (over put t (8 + 12 * i) (four_bytes at)) h.1

end_as : (c s : List ℕ) (l : List ℕ) (at : ℕ) → All (λ i. size_in s i ≡ size_in c i) l → end_from s l at ≡ end_from c l at
unfolding end_from
end_as c s [] at h = refl
end_as c s (i ∷ l) at h = ap (λ z. end_from s l (at + z)) h.0 ∙ end_as c s l (at + size_in c i) h.1

-- what `squeeze` has in hand: packed, cleared, renumbered
module _ {c order : List ℕ} (h : Sorted c order) {front end : ℕ} (ef : front ≡ front_in c) {s₁ s₂ : List ℕ} (ee : end ≡ end_in c)
    (p : s₁ ≡ over put c (front_in c) (outlines_in c)) (q : s₂ ≡ over put s₁ end (replicate (length s₁ - end) 0)) where
  squeezed_cleared : s₂ ≡ over put (over put c (front_in c) (outlines_in c)) (end_in c) (replicate (length c - end_in c) 0)
  squeezed_cleared =
      let l : length s₁ ≡ length c = ap length p ∙ over-length c (front_in c) (outlines_in c) in
      q ∙ ap (λ k. over put s₁ k (replicate (length s₁ - k) 0)) ee ∙ ap (λ k. over put s₁ (end_in c) (replicate (k - end_in c) 0)) l ∙ ap (λ t. over put t (end_in c) (replicate (length c - end_in c) 0)) p

  squeezed_sizes : All (λ i. size_in s₂ i ≡ size_in c i) (in_order c)
  squeezed_sizes = in_order_all c (sound_table c h.sound) (λ i. size_in s₂ i ≡ size_in c i) (λ i d u. packed_word c (sound_table c h.sound) (12 + 12 * i) squeezed_cleared (omega arith))

  pub squeezed_end : end_from s₂ (order) front ≤ 4294967295
  unfolding end_in
  squeezed_end = omega (arith, ap (λ l. end_from s₂ l front) h.sorted, ap (end_from s₂ (in_order c)) ef, end_as c s₂ (in_order c) (front_in c) squeezed_sizes, end_inside c (sound_table c h.sound), (sound_table c h.sound).small)

  pub squeezed : {s₃ : List ℕ} → s₃ ≡ renumbered s₂ (order) front s₂ → s₃ ≡ compacted_of c
  unfolding compacted_of
  squeezed e =
      e
      ∙ ap (λ l. renumbered s₂ l front s₂) h.sorted
      ∙ ap (λ f. renumbered s₂ (in_order c) f s₂) ef
      ∙ renumbered_as c s₂ (in_order c) (front_in c) s₂ squeezed_sizes
      ∙ ap (renumbered c (in_order c) (front_in c)) (packed_is c (sound_table c h.sound) squeezed_cleared)

-- ---- a chunk stays as long as it was

renumbered-length : (c l : List ℕ) (at : ℕ) (s : List ℕ) → length (renumbered c l at s) ≡ length s
unfolding renumbered
renumbered-length c [] at s = refl
renumbered-length c (i ∷ l) at s = renumbered-length c l (at + size_in c i) (over put s (8 + 12 * i) (four_bytes at)) ∙ over-length s (8 + 12 * i) (four_bytes at)

pub compacted_length : (c : List ℕ) → SoundTable c → length (compacted_of c) ≡ length c
unfolding compacted_of
compacted_length c snd =
    renumbered-length c (in_order c) (front_in c) (packed_of c)
    ∙ ap length (sym (packed_is c snd refl))
    ∙ over-length (over put c (front_in c) (outlines_in c)) (end_in c) (replicate (length c - end_in c) 0)
    ∙ over-length c (front_in c) (outlines_in c)

-- ---- added

pub added_at : (c : List ℕ) (key : ℕ) (made : List ℕ) {i at : ℕ} {g : Option ℕ} → Some at ≡ g → i ≡ empty_entry c → with_outline c i key at made ≡ added_in g c key made
unfolding added_in
added_at c key made {i} {at} e ei = ap (λ j. with_outline c j key at made) ei ∙ ap (λ (x : Option ℕ). added_in x c key made) e

pub added_none : (c : List ℕ) (key : ℕ) (made : List ℕ) {i at : ℕ} {s : List ℕ} {g : Option ℕ} → None ≡ g → i ≡ empty_entry c → at ≡ end_in c → s ≡ compacted_of c → with_outline s i key at made ≡ added_in g c key made
unfolding added_in
added_none c key made {i} {at} {s} e ei ea es =
    ap (λ j. with_outline s j key at made) ei ∙ ap (λ k. with_outline s (empty_entry c) key k made) ea ∙ ap (λ t. with_outline t (empty_entry c) key (end_in c) made) es ∙ ap (λ (x : Option ℕ). added_in x c key made) e
