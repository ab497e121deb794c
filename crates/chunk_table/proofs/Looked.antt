-- The entry of a key, and the first empty one, found by looking through all of them. Assumes nothing.
use mathlib.Core.Path.{◌≡◌, refl, sym}
use mathlib.Core.Bool.{Bool, true, false, not}
use mathlib.Core.List.{List}
use Prim.Native.Nat.{ℕ, ◌<◌}
use native.Mathlib.Omega.{arith}
use Rattle.chunk_table.specs.Tables.{entry_count, used_at, empty_at, holds_key, key_entry, empty_entry}
use Rattle.chunk_table.proofs.Below.{first_found, first_past}

not_false : (b : Bool) → not b ≡ true → b ≡ false
not_false true e = sym e
not_false false e = refl

not_true : (b : Bool) → not b ≡ false → b ≡ true
not_true true e = refl
not_true false e = sym e

module _ (c : List ℕ) {n : ℕ} (e : n ≡ entry_count c) where
  pub key_found : (key j : ℕ) → j < n → ((k : ℕ) → k < j → holds_key c key k ≡ false) → holds_key c key j ≡ true → j ≡ key_entry c key
  unfolding key_entry
  key_found key j h b t = first_found (holds_key c key) (entry_count c) j (omega arith) b t

  pub key_past : (key : ℕ) → ((k : ℕ) → k < n → holds_key c key k ≡ false) → key_entry c key ≡ entry_count c
  unfolding key_entry
  key_past key b = sym (first_past (holds_key c key) (entry_count c) (λ k h. b k (omega arith)))

  pub empty_found : (j : ℕ) → j < n → ((k : ℕ) → k < j → used_at c k ≡ true) → used_at c j ≡ false → j ≡ empty_entry c
  unfolding used_at empty_entry
  empty_found j h b t = first_found (empty_at c) (entry_count c) j (omega arith) (λ k d. not_false (empty_at c k) (b k d)) (not_true (empty_at c j) t)

  pub empty_past : ((k : ℕ) → k < n → used_at c k ≡ true) → empty_entry c ≡ entry_count c
  unfolding used_at empty_entry
  empty_past b = sym (first_past (empty_at c) (entry_count c) (λ k h. not_false (empty_at c k) (b k (omega arith))))
