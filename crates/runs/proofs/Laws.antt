-- Runs one after another, whatever the state, the element and the thing. Assumes nothing.
use mathlib.Core.Path.{◌≡◌, refl, sym, ap, ◌∙◌}
use mathlib.Core.List.{List, [], ◌∷◌, ◌++◌, append_assoc}
use Prim.Native.Nat.{ℕ, suc, ◌+◌, ◌*◌}
use native.Mathlib.Nat.{add-zero, add-suc, suc-add, zero-mul, add_comm, suc-mul}
use native.Mathlib.Omega.{arith}
use lib.ListN.{length, length-append}
use Rattle.runs.specs.Runs.{spread, over, Runs, Room}

pub spread-append : {A B : Type 0} (g : B → List A) (es fs : List B) → spread g (es ++ fs) ≡ spread g es ++ spread g fs
unfolding spread
spread-append g [] fs = refl
spread-append g (e ∷ es) fs = ap (λ r. g e ++ r) (spread-append g es fs) ∙ sym (append_assoc (g e) (spread g es) (spread g fs))

-- things of one size
pub spread-length : {A B : Type 0} (g : B → List A) (k : ℕ) → ((e : B) → length (g e) ≡ k) → (es : List B) → length (spread g es) ≡ length es * k
unfolding spread
spread-length g k h [] = sym (zero-mul k)
spread-length g k h (e ∷ es) =
    length-append (g e) (spread g es) ∙ ap (λ n. n + length (spread g es)) (h e) ∙ ap (λ n. k + n) (spread-length g k h es) ∙ add_comm k (length es * k) ∙ sym (suc-mul (length es) k)

pub over-append : {S A : Type 0} (f : S → ℕ → A → S) (s : S) (i : ℕ) (xs ys : List A) → over f (over f s i xs) (i + length xs) ys ≡ over f s i (xs ++ ys)
unfolding over
over-append f s i [] ys = ap (λ k. over f s k ys) (add-zero i)
over-append f s i (x ∷ xs) ys =
    ap (λ k. over f (over f (f s i x) (suc i) xs) k ys) (add-suc i (length xs) ∙ sym (suc-add i (length xs))) ∙ over-append f (f s i x) (suc i) xs ys

module _ {S A B : Type 0} {f : S → ℕ → A → S} {g : B → List A} where
  -- nothing taken
  pub runs_none : {s : S} {a : ℕ} → Runs f g s a [] s a
  unfolding spread over
  runs_none = record { out = refl; pos = omega arith }

  -- what a run of these things comes to
  pub runs_all : (s : S) (a : ℕ) (es : List B) → Runs f g s a es (over f s a (spread g es)) (a + length (spread g es))
  runs_all s a es = record { out = refl; pos = refl }

  -- the same run by another name, or to the same end by another name
  pub runs_as : {s s' : S} {a a' : ℕ} {es fs : List B} → fs ≡ es → Runs f g s a es s' a' → Runs f g s a fs s' a'
  runs_as e p = rw e p

  pub runs_to : {s s' : S} {a a' b' : ℕ} {es : List B} → b' ≡ a' → Runs f g s a es s' a' → Runs f g s a es s' b'
  runs_to e p = rw e p

  -- one run after another
  pub runs_then : {s₀ s₁ s₂ : S} {a₀ a₁ a₂ : ℕ} {es fs : List B} → Runs f g s₀ a₀ es s₁ a₁ → Runs f g s₁ a₁ fs s₂ a₂ → Runs f g s₀ a₀ (es ++ fs) s₂ a₂
  runs_then {s₀} {s₁} {s₂} {a₀} {a₁} {a₂} {es} {fs} p q = record {
    out = q.out
        ∙ ap (λ s. over f s a₁ (spread g fs)) p.out
        ∙ ap (λ k. over f (over f s₀ a₀ (spread g es)) k (spread g fs)) p.pos
        ∙ over-append f s₀ a₀ (spread g es) (spread g fs)
        ∙ ap (λ v. over f s₀ a₀ v) (sym (spread-append g es fs));
    pos = omega (arith, p.pos, q.pos, ap length (spread-append g es fs), length-append (spread g es) (spread g fs));
  }

-- ---- room to count in

module _ {A B : Type 0} {g : B → List A} where
  pub room_first : {a : ℕ} (es fs : List B) → Room g a (es ++ fs) → Room g a es
  room_first es fs r = omega (arith, ap length (spread-append g es fs), length-append (spread g es) (spread g fs))

  pub room_as : {a : ℕ} {es fs : List B} → es ≡ fs → Room g a es → Room g a fs
  room_as e r = rw e at r

  -- past the first things there is room for the rest
  pub room_then : {S : Type 0} {f : S → ℕ → A → S} {s s' : S} {a a' : ℕ} {es : List B} (fs : List B) → Runs f g s a es s' a' → Room g a (es ++ fs) → Room g a' fs
  room_then {es = es} fs p r = omega (arith, p.pos, ap length (spread-append g es fs), length-append (spread g es) (spread g fs))
