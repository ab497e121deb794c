-- Tests over the numbers below a bound: what each says of every number. Assumes nothing.
use mathlib.Core.Path.{◌≡◌, refl, sym, ap, ◌∙◌}
use mathlib.Core.Bool.{Bool, true, false, ◌||◌, ◌&&◌}
use mathlib.Core.Logic.{◌⊎◌, inl, inr, ⊎_elim}
use Prim.Native.Nat.{ℕ, zero, suc, ◌+◌, ◌≤◌, ◌<◌}
use native.Mathlib.Omega.{arith}
use Rattle.chunk_table.specs.Search.{any_below, first_from}
pub use Rattle.dealing.proofs.Splits.{test, less_or, same_or}

-- ---- tests

pub not_both : {b : Bool} → b ≡ true → b ≡ false → ⊥
not_both p q = let z : ◌≡◌ {A = ℕ} 0 1 = ap (λ (b : Bool). elim b [ true ↦ 1 | false ↦ 0 ]) (sym q ∙ p) in omega arith

pub or_first : {a : Bool} (b : Bool) → a ≡ true → (a || b) ≡ true
or_first b e = rw e

pub or_last : (a : Bool) {b : Bool} → b ≡ true → (a || b) ≡ true
or_last true e = refl
or_last false e = e

pub or_not : (a b : Bool) → (a || b) ≡ false → (a ≡ false) × (b ≡ false)
or_not true b e = absurd (not_both refl e)
or_not false b e = (refl, e)

pub or_neither : {a b : Bool} → a ≡ false → b ≡ false → (a || b) ≡ false
or_neither e f = rw e f

pub and_not : {a : Bool} (b : Bool) → a ≡ true → (a && b) ≡ false → b ≡ false
and_not b e f = rw e at f

pub and_parts : (a b : Bool) → (a && b) ≡ true → (a ≡ true) × (b ≡ true)
and_parts true b e = (refl, e)
and_parts false b e = absurd (not_both e refl)

-- ---- any

pub any_none : (p : ℕ → Bool) (n : ℕ) → ((k : ℕ) → k < n → p k ≡ false) → any_below p n ≡ false
unfolding any_below
any_none p zero h = refl
any_none p (suc n) h = or_neither (any_none p n (λ k l. h k (omega arith))) (h n (omega arith))

pub any_some : (p : ℕ → Bool) (n k : ℕ) → k < n → p k ≡ true → any_below p n ≡ true
unfolding any_below
any_some p zero k l e = absurd (omega arith)
any_some p (suc n) k l e =
    ⊎_elim (λ h. or_first (p n) (any_some p n k h e)) (λ h. let q : k ≡ n = omega arith in or_last (any_below p n) (ap p (sym q) ∙ e)) (less_or k n)

pub any_not : (p : ℕ → Bool) (n : ℕ) → any_below p n ≡ false → (k : ℕ) → k < n → p k ≡ false
unfolding any_below
any_not p zero e k l = absurd (omega arith)
any_not p (suc n) e k l =
    ⊎_elim (λ h. any_not p n (or_not (any_below p n) (p n) e).0 k h) (λ h. let q : k ≡ n = omega arith in ap p q ∙ (or_not (any_below p n) (p n) e).1) (less_or k n)

-- ---- the first

pub record FirstIs (p : ℕ → Bool) (i n j : ℕ) : Type 0 where
  pub from : i ≤ j
  pub upto : j ≤ n
  pub before : (k : ℕ) → i ≤ k → k < j → p k ≡ false
  pub here : j < n → p j ≡ true

pub first_only : (p : ℕ → Bool) (i k n j : ℕ) → i + k ≡ n → FirstIs p i n j → first_from p i k ≡ j
unfolding first_from
first_only p i zero n j e h = omega (arith, h.from, h.upto)
first_only p i (suc k) n j e h =
    ⊎_elim
    (λ l. rw (h.before i (omega arith) l, first_from) (first_only p (suc i) k n j (omega arith) (record { from = omega arith; upto = h.upto; before = λ m a b. h.before m (omega arith) b; here = h.here })))
    (λ l. let q : j ≡ i = omega (arith, h.from) in let t : p i ≡ true = ap p (sym q) ∙ h.here (omega arith) in rw (t, first_from) (sym q))
    (less_or i j)

pub first_told : (p : ℕ → Bool) (i k n : ℕ) → i + k ≡ n → FirstIs p i n (first_from p i k)
unfolding first_from
first_told p i zero n e = record { from = omega arith; upto = omega arith; before = λ k a b. absurd (omega arith); here = λ l. absurd (omega arith) }
first_told p i (suc k) n e = pick (test (p i)) (first_told p (suc i) k n (omega arith))
  where
    pick : (p i ≡ true) ⊎ (p i ≡ false) → FirstIs p (suc i) n (first_from p (suc i) k) → FirstIs p i n (first_from p i (suc k))
    pick (inl t) r = rw (t, first_from) (record { from = omega arith; upto = omega arith; before = λ m a b. absurd (omega arith); here = λ l. t })
    pick (inr t) r =
        rw (t, first_from) (record {
          from = omega (arith, r.from);
          upto = r.upto;
          before = λ m a b. ⊎_elim (λ h. r.before m (omega arith) b) (λ h. let q : m ≡ i = omega arith in ap p q ∙ t) (less_or i m);
          here = r.here;
        })

pub first_found : (p : ℕ → Bool) (n j : ℕ) → j < n → ((k : ℕ) → k < j → p k ≡ false) → p j ≡ true → j ≡ first_from p 0 n
first_found p n j l h e = sym (first_only p 0 n n j (omega arith) (record { from = omega arith; upto = omega arith; before = λ k a b. h k b; here = λ m. e }))

pub first_past : (p : ℕ → Bool) (n : ℕ) → ((k : ℕ) → k < n → p k ≡ false) → n ≡ first_from p 0 n
first_past p n h = sym (first_only p 0 n n n (omega arith) (record { from = omega arith; upto = omega arith; before = λ k a b. h k b; here = λ m. absurd (omega arith) }))
