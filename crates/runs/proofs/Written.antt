-- What stands in lent room after a run was written into it. Assumes nothing.
use mathlib.Core.Path.{◌≡◌, refl, sym, ap, ◌∙◌}
use mathlib.Core.List.{List, [], ◌∷◌, ◌++◌}
use Prim.Native.Nat.{ℕ, suc, ◌+◌, ◌≤◌, ◌<◌}
use native.Mathlib.Nat.{zero-add}
use native.Mathlib.Numerals.{add-one}
use native.Mathlib.Omega.{arith}
use lib.ListN.{length, get_or, set, take, drop, length-append}
use lib.Seq.{sets, length-sets, sets-eq, set_comm, take-set-le, take_at, take-suc, length-take-le}
use Rattle.runs.specs.Runs.{spread, over, Runs, put}
use Rattle.runs.proofs.Laws.{over-append, runs_all}
use Rattle.runs.proofs.Onward.{Onward}

-- the library's own name for elements written one by one
pub over_sets : {A : Type 0} (l : List A) (i : ℕ) (vs : List A) → over put l i vs ≡ sets l i vs
unfolding over
over_sets l i [] = refl
over_sets l i (v ∷ vs) = over_sets (set l i v) (suc i) vs

pub over_whole : {A : Type 0} (l vs : List A) → length vs ≤ length l → over put l 0 vs ≡ vs ++ drop (length vs) l
over_whole l vs room = over_sets l 0 vs ∙ sets-eq vs l 0 (omega arith) ∙ ap (λ k. vs ++ drop k l) (zero-add (length vs))

-- what stands before a run stays
over_before : {A : Type 0} (n : ℕ) (l : List A) (i : ℕ) (vs : List A) → n ≤ i → take n (over put l i vs) ≡ take n l
unfolding over
over_before n l i [] h = refl
over_before n l i (v ∷ vs) h = over_before n (set l i v) (suc i) vs (omega arith) ∙ take-set-le n l i v h

-- a run where it fits, behind what stands before it
over_behind : {A : Type 0} (l : List A) (i : ℕ) (vs : List A) → i + length vs ≤ length l → take (i + length vs) (over put l i vs) ≡ take i l ++ vs
over_behind l i vs room =
    ap (take (i + length vs)) (over_sets l i vs ∙ sets-eq vs l i room)
    ∙ take_at (take i l ++ vs) (drop (i + length vs) l) (i + length vs) (length-append (take i l) vs ∙ ap (λ n. n + length vs) (length-take-le i l (omega arith)))

-- one element more of a row that is written from the start on
pub over_more : {A : Type 0} (l₀ : List A) {l : List A} (vs : List A) (i : ℕ) (d : A) {v : A} → i < length vs → v ≡ get_or vs i d → l ≡ over put l₀ 0 (take i vs) → set l i v ≡ over put l₀ 0 (take (i + 1) vs)
unfolding over
over_more l₀ vs i d h e f =
    rw (e, f, add-one i)
    (ap (λ k. set (over put l₀ 0 (take i vs)) k (get_or vs i d)) (sym (zero-add (length (take i vs)) ∙ length-take-le i vs (omega arith)))
    ∙ over-append put l₀ 0 (take i vs) (get_or vs i d ∷ [])
    ∙ ap (over put l₀ 0) (sym (take-suc vs i d h)))

module _ {A B : Type 0} {g : B → List A} where
  -- the room stays as long as it was
  pub written-length : {l₀ l₁ : List A} {a₀ a₁ : ℕ} {es : List B} → Runs put g l₀ a₀ es l₁ a₁ → length l₁ ≡ length l₀
  written-length {l₀} {l₁} {a₀} {a₁} {es} p = ap length (p.out ∙ over_sets l₀ a₀ (spread g es)) ∙ length-sets l₀ a₀ (spread g es)

  -- what stands before the run stays, and behind it stand the things where there is room
  pub written_before : {l₀ l₁ : List A} {a₀ a₁ : ℕ} {es : List B} (n : ℕ) → n ≤ a₀ → Runs put g l₀ a₀ es l₁ a₁ → take n l₁ ≡ take n l₀
  written_before {l₀} {l₁} {a₀} {a₁} {es} n h p = ap (take n) p.out ∙ over_before n l₀ a₀ (spread g es) h

  pub written_behind : {l₀ l₁ : List A} {a₀ a₁ : ℕ} {es : List B} → a₁ ≤ length l₀ → Runs put g l₀ a₀ es l₁ a₁ → take a₁ l₁ ≡ take a₀ l₀ ++ spread g es
  written_behind {l₀} {l₁} {a₀} {a₁} {es} h p = rw (p.pos, p.out) (over_behind l₀ a₀ (spread g es) (omega (arith, p.pos)))

  pub onward_length : {l₀ l : List A} {a₀ a : ℕ} {all rest : List B} → Onward put g l₀ a₀ all l a rest → length l ≡ length l₀
  onward_length {l₀} {l} {a₀} {a} {all} {rest} h = sym (written-length (runs_all {f = put} {g = g} l a rest)) ∙ written-length (h.on _ _ (runs_all l a rest))

  -- where there is room: the things, and past them what stood there
  pub written_whole : {l₀ l₁ : List A} {a₁ : ℕ} {es : List B} → Runs put g l₀ 0 es l₁ a₁ → length (spread g es) ≤ length l₀ → l₁ ≡ spread g es ++ drop (length (spread g es)) l₀
  written_whole {l₀} {es = es} p room = p.out ∙ over_whole l₀ (spread g es) room

-- ---- two runs in one room

-- an element before a run may be put first
put-first : {A : Type 0} (l : List A) (i : ℕ) (x : A) (j : ℕ) (ys : List A) → i < j → set (over put l j ys) i x ≡ over put (set l i x) j ys
unfolding over
put-first l i x j [] h = refl
put-first l i x j (y ∷ ys) h =
    let n : j ≡ i → ⊥ = λ e. omega arith in
    put-first (set l j y) i x (suc j) ys (omega arith) ∙ ap (λ m. over put m (suc j) ys) (set_comm l j i y x n)

-- runs that do not meet may change places
pub over_comm : {A : Type 0} (l : List A) (i : ℕ) (xs : List A) (j : ℕ) (ys : List A) → i + length xs ≤ j → over put (over put l j ys) i xs ≡ over put (over put l i xs) j ys
unfolding over
over_comm l i [] j ys h = refl
over_comm l i (x ∷ xs) j ys h = ap (λ m. over put m (suc i) xs) (put-first l i x j ys (omega arith)) ∙ over_comm (set l i x) (suc i) xs j ys (omega arith)
