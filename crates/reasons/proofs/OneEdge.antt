-- One edge's five numbers from a list that begins with them. Assumes nothing.
use mathlib.Core.Path.{◌≡◌, refl, ap, ◌∙◌}
use mathlib.Core.Bool.{Bool, true, false}
use mathlib.Core.List.{List, [], ◌∷◌, ◌++◌}
use Prim.Native.Nat.{ℕ, zero, suc, ◌*◌, ◌≤◌, ◌<◌}
use native.Mathlib.Omega.{arith}
use borrow.Author.Tests.{lt-ltb, le-ltb, ne_eqb}
use lib.Dec.{eqb}
use lib.ListN.{length, get_or, drop}
use lib.Seq.{set_out}
use Rattle.runs.specs.Runs.{spread, over, put}
use Rattle.paths.specs.Paths.{Within}
use Rattle.paths.proofs.Most.{edges_most}
use Rattle.contacts.specs.declared.Exactness.{Exactness}
use Rattle.contacts.specs.declared.Vertex.{Vertex}
use Rattle.reasons.specs.Reasons.{whys_of, reason_number, exactness_of}
use Rattle.reasons.specs.Lists.{exact_number, why_numbers, reason_of, unnamed, explanation_of}
use Rattle.reasons.specs.declared.Reason.{Reason}
use Rattle.reasons.specs.declared.Reason.TheVariants.{LeftSide, RightSide, StartCap, EndCap, LeftJoin, RightJoin, Gap, Circle}
use Rattle.reasons.specs.declared.Why.{Why}
use Rattle.std.specs.Prelude.{Some, None}
use Rattle.reasons.proofs.OneReason.{one_reason}

reason_back : (r : Reason) → reason_of (reason_number r) (exactness_of r) ≡ r
unfolding reason_of reason_number exactness_of
reason_back (LeftSide e) = refl
reason_back (RightSide e) = refl
reason_back StartCap = refl
reason_back EndCap = refl
reason_back LeftJoin = refl
reason_back RightJoin = refl
reason_back Gap = refl
reason_back Circle = refl

exact_back : (b : Bool) → eqb (exact_number b) 1 ≡ b
unfolding exact_number
exact_back true = refl
exact_back false = refl

-- ---- the last reason: it has every number that no other has

module _ (n : ℕ) (x : Exactness) where
  pub named_last : (n ≡ 0 → ⊥) → (n ≡ 1 → ⊥) → (n ≡ 2 → ⊥) → (n ≡ 3 → ⊥) → (n ≡ 4 → ⊥) → (n ≡ 5 → ⊥) → (n ≡ 6 → ⊥) → Circle ≡ reason_of n x
  unfolding reason_of
  named_last h0 h1 h2 h3 h4 h5 h6 = rw (ne_eqb n 0 h0, ne_eqb n 1 h1, ne_eqb n 2 h2, ne_eqb n 3 h3, ne_eqb n 4 h4, ne_eqb n 5 h5, ne_eqb n 6 h6, reason_of)

-- past the room nothing is put
over_out : (l : List ℕ) (i : ℕ) (vs : List ℕ) → length l ≤ i → over put l i vs ≡ l
unfolding over
over_out l i [] h = refl
over_out l i (v ∷ vs) h = ap (λ m. over put m (suc i) vs) (set_out l i v h) ∙ over_out l (suc i) vs (omega arith)

-- the numbers of the edge k stand first in what is left of the list there
numbers_at : (ws : List Why) (k : ℕ) → k < length ws → drop (5 * k) (spread why_numbers ws) ≡ why_numbers (get_or ws k unnamed) ++ drop (5 * suc k) (spread why_numbers ws)
unfolding spread why_numbers
numbers_at [] k h = absurd (omega arith)
numbers_at (w ∷ ws) zero h = refl
numbers_at (w ∷ ws) (suc k) h =
    let e : 5 * suc k ≡ suc (suc (suc (suc (suc (5 * k))))) = omega arith in
    let f : 5 * suc (suc k) ≡ suc (suc (suc (suc (suc (5 * suc k))))) = omega arith in
    rw (f, e) (numbers_at ws k (omega arith) ∙ ap (λ n. why_numbers (get_or ws k unnamed) ++ drop n (spread why_numbers ws)) e)

-- room for five numbers then holds them
five_put : (a b c d e : ℕ) (w : Why) (rest : List ℕ) → over put (a ∷ b ∷ c ∷ d ∷ e ∷ []) 0 (why_numbers w ++ rest) ≡ why_numbers w
unfolding over why_numbers
five_put a b c d e w rest = over_out (why_numbers w) 5 rest (omega arith)

five : (l : List ℕ) (ws : List Why) (k : ℕ) → length l ≡ 5 → k < length ws → over put l 0 (drop (5 * k) (spread why_numbers ws)) ≡ why_numbers (get_or ws k unnamed)
five [] ws k e h = absurd (omega arith)
five (a ∷ []) ws k e h = absurd (omega arith)
five (a ∷ b ∷ []) ws k e h = absurd (omega arith)
five (a ∷ b ∷ c ∷ []) ws k e h = absurd (omega arith)
five (a ∷ b ∷ c ∷ d ∷ []) ws k e h = absurd (omega arith)
five (a ∷ b ∷ c ∷ d ∷ z ∷ []) ws k e h = ap (over put (a ∷ b ∷ c ∷ d ∷ z ∷ []) 0) (numbers_at ws k h) ∙ five_put a b c d z (get_or ws k unnamed) (drop (5 * suc k) (spread why_numbers ws))
five (a ∷ b ∷ c ∷ d ∷ z ∷ y ∷ l) ws k e h = absurd (omega arith)

-- ---- what explaining an edge comes to

module _ (ws : List Why) (k : ℕ) where
  pub explained_none : length ws ≤ k → None ≡ explanation_of ws k
  unfolding explanation_of
  explained_none h = rw (le-ltb k (length ws) h, explanation_of)

  pub explained_edge : (l : List ℕ) {m : List ℕ} {r : Reason} {x v p : ℕ} {s z : Bool} → length l ≡ 5 → k < length ws → m ≡ over put l 0 (drop (5 * k) (spread why_numbers ws))
      → x ≡ get_or m 0 0 → s ≡ eqb (get_or m 3 0) 1 → z ≡ eqb (get_or m 4 0) 1 → r ≡ reason_of x (record { a = s; b = z }) → v ≡ get_or m 1 0 → p ≡ get_or m 2 0
      → Some (record { reason = r; vertex = v; place = p }) ≡ explanation_of ws k
  unfolding explanation_of why_numbers
  explained_edge l {m} {r} {x} {v} {p} {s} {z} long h e ex es ez er ev ep =
      let w : Why = get_or ws k unnamed in
      let f : m ≡ why_numbers w = e ∙ five l ws k long h in
      let fs : s ≡ (exactness_of w.reason).a = es ∙ ap (λ n. eqb (get_or n 3 0) 1) f ∙ exact_back (exactness_of w.reason).a in
      let fz : z ≡ (exactness_of w.reason).b = ez ∙ ap (λ n. eqb (get_or n 4 0) 1) f ∙ exact_back (exactness_of w.reason).b in
      let g : r ≡ w.reason = er ∙ (λ i. reason_of ((ex ∙ ap (λ n. get_or n 0 0) f) i) (record { a = fs i; b = fz i })) ∙ reason_back w.reason in
      let i : v ≡ w.vertex = ev ∙ ap (λ n. get_or n 1 0) f in
      let j : p ≡ w.place = ep ∙ ap (λ n. get_or n 2 0) f in
      rw (g, i, j, lt-ltb k (length ws) h, explanation_of)

-- no path within the limits has so many edges
pub whys_few : (g : ℕ) (vs : List Vertex) → Within g vs → length (whys_of g vs) < 4294967296
whys_few g vs h = omega (arith, one_reason g vs, edges_most g vs, h.count)
