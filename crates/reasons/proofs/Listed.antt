-- Reasons put into lent numbers from a number on, and one rule's edges place by place. Assumes nothing.
use mathlib.Core.Path.{◌≡◌, refl, sym, ap, ◌∙◌}
use mathlib.Core.Bool.{Bool, true, false}
use mathlib.Core.List.{List, [], ◌∷◌, ◌++◌}
use Prim.Native.Nat.{ℕ, zero, suc, ◌+◌, ◌*◌, ◌-◌, ◌^◌, ◌≤◌, ◌<◌}
use native.Mathlib.Numerals.{add-one}
use native.Mathlib.Nat.{sub-zero}
use native.Mathlib.Omega.{arith}
use borrow.Author.Tests.{ltb-true, ltb-false, lt-ltb, le-ltb}
use lib.Dec.{ltb}
use lib.ListN.{length, set, drop}
use lib.Seq.{set_out, length-sets}
use Rattle.runs.specs.Runs.{spread, over, Runs, Room, put}
use Rattle.runs.proofs.Laws.{spread-length}
use Rattle.runs.proofs.Written.{over_sets}
use Rattle.reasons.specs.Reasons.{places_from, reason_number, exactness_of}
use Rattle.reasons.specs.Lists.{exact_number, why_numbers, put_past}
use Rattle.contacts.specs.declared.Exactness.{Exactness}
use Rattle.reasons.specs.declared.Reason.{Reason}
use Rattle.reasons.specs.declared.Why.{Why}

-- ---- one number

module _ (from : ℕ) (l : List ℕ) (i v : ℕ) where
  pub past_before : i < from → l ≡ put_past from l i v
  unfolding put_past
  past_before h = rw (lt-ltb i from h, put_past)

  pub past_in : from ≤ i → set l (i - from) v ≡ put_past from l i v
  unfolding put_past
  past_in h = rw (le-ltb i from h, put_past)

  pub past_out : from ≤ i → length l ≤ i - from → l ≡ put_past from l i v
  past_out h k = sym (set_out l (i - from) v k) ∙ past_in h

-- from the number at `from` on they are put one after another
pub past_over : (from : ℕ) (l : List ℕ) (i : ℕ) (vs : List ℕ) → over (put_past from) l i vs ≡ over put l (i - from) (drop (from - i) vs)
unfolding over
past_over from l i [] = go (from - i)
  where
    go : (k : ℕ) → l ≡ over put l (i - from) (drop k [])
    go zero = refl
    go (suc k) = refl
past_over from l i (v ∷ vs) = go (ltb i from) refl (λ m. past_over from m (suc i) vs)
  where
    go : (x : Bool) → ltb i from ≡ x → ((m : List ℕ) → over (put_past from) m (suc i) vs ≡ over put m (suc i - from) (drop (from - suc i) vs))
        → over (put_past from) (put_past from l i v) (suc i) vs ≡ over put l (i - from) (drop (from - i) (v ∷ vs))
    go true e rest =
        let h : i < from = ltb-true i from e in
        let f : from - i ≡ suc (from - suc i) = omega arith in
        let g : suc i - from ≡ i - from = omega arith in
        rw (← past_before from l i v h, f) (rest l ∙ ap (λ k. over put l k (drop (from - suc i) vs)) g)
    go false e rest =
        let h : from ≤ i = ltb-false i from e in
        let f : from - i ≡ 0 = omega arith in
        let g : suc i - from ≡ suc (i - from) = omega arith in
        let k : from - suc i ≡ 0 = omega arith in
        rw (← past_in from l i v h, f) (rest (set l (i - from) v) ∙ ap (λ n. over put (set l (i - from) v) (suc i - from) (drop n vs)) k ∙ ap (λ n. over put (set l (i - from) v) n vs) g)

-- the room stays as long as it was
over_past_length : (from : ℕ) (l : List ℕ) (i : ℕ) (vs : List ℕ) → length (over (put_past from) l i vs) ≡ length l
over_past_length from l i vs = ap length (past_over from l i vs ∙ over_sets l (i - from) (drop (from - i) vs)) ∙ length-sets l (i - from) (drop (from - i) vs)

pub past_length : {B : Type 0} {g : B → List ℕ} (from : ℕ) {l₀ l₁ : List ℕ} {a₀ a₁ : ℕ} {es : List B} → Runs (put_past from) g l₀ a₀ es l₁ a₁ → length l₁ ≡ length l₀
past_length {g = g} from {l₀} {a₀ = a₀} {es = es} p = ap length p.out ∙ over_past_length from l₀ a₀ (spread g es)

-- ---- one edge

pub whys_five : (ws : List Why) → length (spread why_numbers ws) ≡ length ws * 5
unfolding why_numbers
whys_five ws = spread-length why_numbers 5 (λ w. refl) ws

pub why_put : (from : ℕ) {l₀ l₁ l₂ l₃ l₄ l₅ : List ℕ} {at n s z : ℕ} {x : Exactness} (w : Why) → n ≡ reason_number w.reason → l₁ ≡ put_past from l₀ at n → l₂ ≡ put_past from l₁ (at + 1) w.vertex → l₃ ≡ put_past from l₂ (at + 2) w.place
    → x ≡ exactness_of w.reason → s ≡ exact_number x.a → l₄ ≡ put_past from l₃ (at + 3) s → z ≡ exact_number x.b → l₅ ≡ put_past from l₄ (at + 4) z
    → Runs (put_past from) why_numbers l₀ at (w ∷ []) l₅ (at + 5)
unfolding spread over why_numbers
why_put from {at = at} w e p q r x es ps ez pz =
    let f₂ : at + 2 ≡ suc (suc at) = omega arith in
    let f₃ : at + 3 ≡ suc (suc (suc at)) = omega arith in
    let f₄ : at + 4 ≡ suc (suc (suc (suc at))) = omega arith in
    record { out = rw (pz, ez, ps, es, x, r, q, p, e, f₂, f₃, f₄, add-one at); pos = refl }

-- ---- the places of one rule

module _ (r : Reason) (v : ℕ) where
  pub places_more : (p n : ℕ) → p < n → places_from r v p (n - p) ≡ (record { reason = r; vertex = v; place = p } ∷ []) ++ places_from r v (p + 1) (n - (p + 1))
  unfolding places_from
  places_more p n h =
      let e : n - p ≡ suc (n - (p + 1)) = omega arith in
      let f : p + 1 ≡ suc p = omega arith in
      rw (e, f)

  pub places_done : (p n : ℕ) → n ≤ p → places_from r v p (n - p) ≡ []
  unfolding places_from
  places_done p n h = let e : n - p ≡ 0 = omega arith in rw e

  pub places_length : (p n : ℕ) → length (places_from r v p n) ≡ n
  unfolding places_from
  places_length p zero = refl
  places_length p (suc n) = ap suc (places_length (suc p) n)

  pub places_size : (p n : ℕ) → length (spread why_numbers (places_from r v p n)) ≡ 5 * n
  places_size p n = omega (arith, whys_five (places_from r v p n), places_length p n)

  -- room for all of them
  pub places_room : {at : ℕ} (n : ℕ) → Room why_numbers at (places_from r v 0 n) → at + 5 * n < 2 ^ 64
  places_room n h = omega (arith, h.fits, places_size 0 n)

  pub places_all : (n : ℕ) → places_from r v 0 n ≡ places_from r v 0 (n - 0)
  places_all n = ap (places_from r v 0) (sym (sub-zero n))
