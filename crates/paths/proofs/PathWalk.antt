-- A path vertex by vertex: its vertices, the first outside the limits, and its edges from a walk on. Assumes nothing.
use mathlib.Core.Path.{◌≡◌, refl, ◌∙◌}
use mathlib.Core.Bool.{Bool, true, false}
use mathlib.Core.List.{List, [], ◌∷◌, ◌++◌, append-nil}
use Prim.Native.Nat.{ℕ, zero, suc, ◌+◌, ◌*◌, ◌/◌, ◌≤◌, ◌<◌}
use native.Mathlib.Omega.{arith}
use native.Mathlib.Numerals.{add-one}
use lib.IntN.{ℤ, pos}
use lib.ListN.{length, get_or, drop, drop_of_length-le}
use lib.Seq.{drop-cons}
use mir.Syntax.{w32, w64}
use mir.Val.{SFits, to_z, of_z}
use mir.Facts.{to_z-of_z}
use Rattle.plane.proofs.Products.{bits, back}
use Rattle.plane.specs.declared.Vector.{Vector}
use Rattle.contacts.specs.Limits.{allowed_of, first_outside}
use Rattle.variable_stroke.specs.Chains.{finish_of, emitted_of, next_of, start_of}
use Rattle.paths.specs.Paths.{path_of, none, bodies_from, bodies_at, joined}
use Rattle.contacts.specs.declared.Vertex.{Vertex}
use Rattle.variable_stroke.specs.declared.Walk.{Walk}
use Rattle.contacts.specs.Bounds.{Inside}
use Rattle.variable_stroke.specs.Bounds.{AroundWalk}
use Rattle.contacts.proofs.Allowed.{inside_of_lem}
use Rattle.contacts.proofs.Contacts.{section_around}
use Rattle.variable_stroke.proofs.ChainSteps.{next_around}

-- ---- vertices

pub path_count : (l : List ℤ) → length (path_of l) ≡ length l / 3
unfolding path_of
path_count [] = refl
path_count (x ∷ []) = refl
path_count (x ∷ y ∷ []) = refl
path_count (x ∷ y ∷ r ∷ l) = let e : length (path_of l) ≡ length l / 3 = path_count l in omega arith

vertex_at : (l : List ℤ) (k : ℕ) → k < length (path_of l) → record { x = get_or l (3 * k) (pos 0); y = get_or l (3 * k + 1) (pos 0); radius = get_or l (3 * k + 2) (pos 0) } ≡ get_or (path_of l) k none
unfolding path_of
vertex_at [] k h = absurd (omega arith)
vertex_at (x ∷ []) k h = absurd (omega arith)
vertex_at (x ∷ y ∷ []) k h = absurd (omega arith)
vertex_at (x ∷ y ∷ r ∷ l) zero h = refl
vertex_at (x ∷ y ∷ r ∷ l) (suc k) h =
    let e₀ : 3 * suc k ≡ suc (suc (suc (3 * k))) = omega arith in
    let e₁ : 3 * suc k + 1 ≡ suc (suc (suc (3 * k + 1))) = omega arith in
    let e₂ : 3 * suc k + 2 ≡ suc (suc (suc (3 * k + 2))) = omega arith in
    let i : k < length (path_of l) = omega arith in
    rw (e₁, e₂, e₀) (vertex_at l k i)

-- a number of 32 bits, as the code has widened it
pub wide_read : {z r : ℤ} → SFits w64 r → SFits w32 z → r ≡ to_z w32 (of_z w32 z) → bits r ≡ z
wide_read h k e = back h ∙ e ∙ to_z-of_z k

-- x, y and r are what the code has read
pub vertex_read : (l : List ℤ) (k : ℕ) (x y r : ℤ) → k < length (path_of l) → bits x ≡ get_or l (3 * k) (pos 0) → bits y ≡ get_or l (3 * k + 1) (pos 0) → bits r ≡ get_or l (3 * k + 2) (pos 0)
    → record { x = bits x; y = bits y; radius = bits r } ≡ get_or (path_of l) k none
vertex_read l k x y r h ex ey er = rw (ex, ey, er) (vertex_at l k h)

-- ---- the first vertex outside

module _ (vs : List Vertex) (k : ℕ) where
  pub outside_skip : {v : Vertex} → k < length vs → v ≡ get_or vs k none → allowed_of v ≡ true → first_outside (drop k vs) ≡ suc (first_outside (drop (k + 1) vs))
  unfolding first_outside
  outside_skip h e t = let u : allowed_of (get_or vs k none) ≡ true = rw e at t in rw (add-one, drop-cons vs k none h, first_outside, u)

  pub outside_here : {v : Vertex} → k < length vs → v ≡ get_or vs k none → allowed_of v ≡ false → first_outside (drop k vs) ≡ 0
  unfolding first_outside
  outside_here h e t = let u : allowed_of (get_or vs k none) ≡ false = rw e at t in rw (drop-cons vs k none h, first_outside, u)

  pub outside_end : length vs ≤ k → first_outside (drop k vs) ≡ 0
  unfolding first_outside
  outside_end h = rw (drop_of_length-le vs h)

-- where none is, each is within
pub allowed_at : (vs : List Vertex) (k : ℕ) → first_outside vs ≡ length vs → k < length vs → allowed_of (get_or vs k none) ≡ true
unfolding first_outside
allowed_at [] k e h = absurd (omega arith)
allowed_at (v ∷ vs) zero e h = go (allowed_of v) refl e
  where
    go : (x : Bool) → allowed_of v ≡ x → elim x [ true ↦ suc (first_outside vs) | false ↦ 0 ] ≡ suc (length vs) → allowed_of v ≡ true
    go true f g = f
    go false f g = absurd (omega arith)
allowed_at (v ∷ vs) (suc k) e h = go (allowed_of v) e (λ f. allowed_at vs k f (omega arith))
  where
    go : (x : Bool) → elim x [ true ↦ suc (first_outside vs) | false ↦ 0 ] ≡ suc (length vs) → (first_outside vs ≡ length vs → allowed_of (get_or vs k none) ≡ true) → allowed_of (get_or vs k none) ≡ true
    go true g r = r (omega arith)
    go false g r = absurd (omega arith)

-- ---- edges

pub edges-none : (t : Vector) (vs : List Vertex) → length vs ≡ 0 → joined (bodies_at t vs) ≡ []
unfolding bodies_at joined
edges-none t [] h = refl
edges-none t (v ∷ vs) h = absurd (omega arith)

pub edges-start : (t : Vector) (vs : List Vertex) {a : Vertex} {w : Walk} → 0 < length vs → a ≡ get_or vs 0 none → w ≡ start_of a → joined (bodies_at t vs) ≡ joined (bodies_from t w (drop 1 vs))
unfolding bodies_at joined
edges-start t [] h e f = absurd (omega arith)
edges-start t (v ∷ vs) h e f = rw (f, e)

pub edges_step : (t : Vector) (vs : List Vertex) (k : ℕ) (w : Walk) {b : Vertex} {u : Walk} → k < length vs → b ≡ get_or vs k none → u ≡ next_of w b
    → joined (bodies_from t w (drop k vs)) ≡ emitted_of t w b ++ joined (bodies_from t u (drop (k + 1) vs))
unfolding bodies_from joined
edges_step t vs k w h e f = rw (f, add-one, e, drop-cons vs k none h)

pub edges_end : (t : Vector) (vs : List Vertex) (k : ℕ) (w : Walk) → length vs ≤ k → joined (bodies_from t w (drop k vs)) ≡ finish_of t w.chain w.closing
unfolding bodies_from joined
edges_end t vs k w h = rw (drop_of_length-le vs h) (append-nil (finish_of t w.chain w.closing))

-- ---- the limits, as they are tested

-- nothing lies below 0
pub some : (n : ℕ) → (n ≡ 0 → ⊥) → 0 < n
some zero h = absurd (h refl)
some (suc n) h = omega arith

-- ---- a walk over a path within the limits stays within them

module _ (vs : List Vertex) (k : ℕ) (h : first_outside vs ≡ length vs) (l : k < length vs) where
  pub inside_at : {b : Vertex} → b ≡ get_or vs k none → Inside b
  inside_at e = rw e (inside_of_lem (allowed_at vs k h l))

  pub around_next : {b : Vertex} {w u : Walk} → b ≡ get_or vs k none → AroundWalk w → u ≡ next_of w b → AroundWalk u
  around_next {b} {w} e a f = rw f (next_around w b (λ n. section_around a.at (inside_at e) n) a (inside_at e))
