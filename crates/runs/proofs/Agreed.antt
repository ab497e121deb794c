-- How far a store agrees: one law for each case of one byte more, and a difference that was found stays. Assumes nothing.
use mathlib.Core.Path.{◌≡◌, refl}
use mathlib.Core.List.{List, [], ◌∷◌}
use Prim.Native.Nat.{ℕ, suc, ◌+◌, ◌≤◌, ◌<◌}
use native.Mathlib.Numerals.{add-one}
use native.Mathlib.Omega.{arith}
use borrow.Author.Tests.{eq-eqb, ne_eqb, lt-ltb, le-ltb}
use lib.ListN.{length, get_or}
use Rattle.runs.specs.Runs.{over, agree}

module _ (store : List ℕ) (ok i b : ℕ) where
  -- a difference lies before
  pub agree_not_yet : (ok ≡ i → ⊥) → ok ≡ agree store ok i b
  unfolding agree
  agree_not_yet h = rw (ne_eqb ok i h, agree)

  -- the store has ended
  pub agree_out : ok ≡ i → length store ≤ i → ok ≡ agree store ok i b
  unfolding agree
  agree_out e h = rw (eq-eqb ok i e, le-ltb i (length store) h, agree)

  pub agree_same : ok ≡ i → i < length store → get_or store i 0 ≡ b → ok + 1 ≡ agree store ok i b
  unfolding agree
  agree_same e h f = rw (eq-eqb ok i e, lt-ltb i (length store) h, eq-eqb (get_or store i 0) b f, agree) (add-one ok)

  pub agree_differs : ok ≡ i → i < length store → (get_or store i 0 ≡ b → ⊥) → ok ≡ agree store ok i b
  unfolding agree
  agree_differs e h f = rw (eq-eqb ok i e, lt-ltb i (length store) h, ne_eqb (get_or store i 0) b f, agree)

pub agree_stays : (store : List ℕ) (ok i : ℕ) (bs : List ℕ) → ok < i → over (agree store) ok i bs ≡ ok
unfolding over
agree_stays store ok i [] h = refl
agree_stays store ok i (b ∷ bs) h =
    let n : ok ≡ i → ⊥ = λ e. omega arith in
    rw (← agree_not_yet store ok i b n) (agree_stays store ok (suc i) bs (omega arith))
