-- Where the comparison of the bodies has come to, vertex by vertex. Assumes nothing.
use mathlib.Core.Path.{◌≡◌, refl, sym, ap, ◌∙◌}
use mathlib.Core.List.{List, [], ◌∷◌, ◌++◌}
use Prim.Native.Nat.{ℕ, ◌+◌, ◌*◌, ◌/◌, ◌^◌, ◌≤◌, ◌<◌}
use native.Mathlib.Numerals.{add-one}
use native.Mathlib.Nat.{zero-add}
use native.Mathlib.Omega.{arith}
use lib.IntN.{ℤ}
use lib.ListN.{length, get_or, set, take, drop, drop_of_length-le, length-append}
use lib.Seq.{drop-cons}
use Rattle.runs.specs.Runs.{Runs, put}
use Rattle.runs.proofs.Laws.{runs_as, runs_to, runs_then}
use Rattle.runs.proofs.Onward.{Onward, onward_start, onward_step, onward_as, onward_done}
use Rattle.runs.proofs.Written.{onward_length}
use Rattle.plane.specs.Directions.{step_of}
use Rattle.plane.specs.declared.Vector.{Vector}
use Rattle.turning.specs.Edges.{edge_numbers}
use Rattle.turning.specs.Bounds.{Most}
use Rattle.turning.proofs.Most.{edges_four}
use Rattle.turning.specs.declared.Edge.{Edge}
use Rattle.contacts.specs.Limits.{first_outside}
use Rattle.contacts.specs.declared.Vertex.{Vertex}
use Rattle.variable_stroke.specs.Bounds.{AroundWalk}
use Rattle.variable_stroke.specs.Chains.{emitted_of, next_of, start_of, close_of}
use Rattle.variable_stroke.specs.declared.Walk.{Walk}
use Rattle.variable_stroke.proofs.ChainSteps.{start_around}
use Rattle.paths.specs.Paths.{none, bodies_from, bodies_at, bodies_of, joined, edges_of}
use Rattle.paths.proofs.PathWalk.{edges-none, edges-start, edges_step, edges_end, inside_at, around_next}
use Rattle.words.specs.Words.{words_of, word_at}
use Rattle.outline.specs.Layout.{edge_bytes, front_bytes}
use Rattle.outline.specs.Stores.{edges_in, edges_before}
use Rattle.outline.specs.declared.Edition.{Edition}
use Rattle.outline.specs.declared.Form.TheVariants.{Stroke}
use Rattle.outline.proofs.FormLengths.{entries_most}
use Rattle.outline.proofs.OwnNumbers.{own_count, own_words}
use Rattle.outline.proofs.Parts.{body-none}
use Rattle.outline.proofs.ReadBack.{few_edges}
use Rattle.differences.specs.Differences.{old_at, difference_of, differences_from, total_number, differences_of}
use Rattle.differences.specs.Bodies.{single, Fronted, OwnEdges, DifferenceTold, BodyTold}
use Rattle.differences.specs.declared.bodies.Differing.{Differing}
use Rattle.differences.proofs.Notes.{single_run}

-- ---- edges that a step has left in own numbers

pub own_edges : {l₀ l₁ : List ℤ} {n : ℕ} {es : List Edge} → Most 9227 es → Runs put edge_numbers l₀ 0 es l₁ n → 36908 ≤ length l₀ → OwnEdges l₁ (n / 4) es
own_edges {l₁ = l₁} {n} {es} m p room =
    let e : 4 * (n / 4) ≡ n = omega (arith, own_count m p, p.pos, edges_four es) in
    record { count = own_count m p; words = own_words m p (omega (arith, m.most, room)) ∙ ap (λ (k : ℕ). words_of (take k l₁)) (sym e) }

pub no_edges : (l : List ℤ) → OwnEdges l 0 []
unfolding words_of
no_edges l = record { count = refl; words = body-none }

-- the walk as the code has it
pub told_walk : {s : List ℕ} {d r : Differing} {u w : Walk} {old : ℕ} {es : List Edge} → u ≡ w → BodyTold s d u old es r → BodyTold s d w old es r
told_walk e p = rw e at p

-- ---- where old edges begin

old_start : {s : List ℕ} {e : Edition} {n : ℕ} → Fronted s e n → old_at s 0 ≡ front_bytes (Stroke e) n
unfolding old_at edges_before
old_start f = rw (f.edition, f.count) (omega arith)

old_next : (s : List ℕ) (i : ℕ) → old_at s (i + 1) ≡ old_at s i + edge_bytes * edges_in s i
unfolding old_at edges_before
old_next s i = rw (add-one i) (omega arith)

module _ {s : List ℕ} {e : Edition} {n base : ℕ} (f : Fronted s e n) (b : base ≡ front_bytes (Stroke e) n) where
  pub first-at : base ≡ old_at s 0
  first-at = b ∙ sym (old_start f)

  pub second-at : {old : ℕ} → old ≡ edges_in s 0 → base + edge_bytes * old ≡ old_at s 1
  second-at q = (λ i. first-at i + edge_bytes * q i) ∙ sym (old_next s 0)

  pub base_small : base ≤ 81944
  base_small = omega (arith, b, f.few, entries_most e n)

-- ---- body by body

bodies_next : (t : Vector) (vs : List Vertex) (k : ℕ) (w : Walk) {b : Vertex} {u : Walk} → k < length vs → b ≡ get_or vs k none → u ≡ next_of w b
    → bodies_from t w (drop k vs) ≡ emitted_of t w b ∷ bodies_from t u (drop (k + 1) vs)
unfolding bodies_from
bodies_next t vs k w h e f = rw (f, add-one, e, drop-cons vs k none h)

bodies_last : (t : Vector) (vs : List Vertex) (k : ℕ) (w : Walk) → length vs ≤ k → bodies_from t w (drop k vs) ≡ close_of t w ∷ []
unfolding bodies_from
bodies_last t vs k w h = rw (drop_of_length-le vs h)

bodies_first : (t : Vector) (vs : List Vertex) {a : Vertex} {w : Walk} → 0 < length vs → a ≡ get_or vs 0 none → w ≡ start_of a → bodies_at t vs ≡ [] ∷ bodies_from t w (drop 1 vs)
unfolding bodies_at
bodies_first t [] h e f = absurd (omega arith)
bodies_first t (v ∷ vs) h e f = rw (f, e)

pub record Differed (t : Vector) (s : List ℕ) (vs : List Vertex) (w : Walk) (l₀ l : List ℕ) (k : ℕ) (d : Differing) : Type 0 where
  pub around : AroundWalk d.walk
  pub at : d.at ≡ old_at s k
  pub low : d.at ≤ 81944 + 68719476720 * k
  pub edges : d.edges + length (joined (bodies_from t d.walk (drop k vs))) ≡ length (joined (bodies_from t w (drop 1 vs)))
  pub found : Onward put single l₀ 1 (differences_from s 1 (bodies_from t w (drop 1 vs))) l k (differences_from s k (bodies_from t d.walk (drop k vs)))

pub differed_start : {t : Vector} {s : List ℕ} {vs : List Vertex} {l : List ℕ} {d : Differing} → AroundWalk d.walk → d.at ≡ old_at s 1 → d.at ≤ 68719558664 → d.edges ≡ 0 → Differed t s vs d.walk l l 1 d
differed_start {t} {s} {vs} {l} {d} a e h z = record {
  around = a;
  at = e;
  low = omega (arith, h);
  edges = ap (λ (k : ℕ). k + length (joined (bodies_from t d.walk (drop 1 vs)))) z ∙ zero-add _;
  found = onward_start;
}

module _ {t : Vector} {s : List ℕ} {vs : List Vertex} {w : Walk} {l₀ l : List ℕ} {k : ℕ} {d : Differing} (p : Differed t s vs w l₀ l k d) where
  pub differed_length : length l ≡ length l₀
  differed_length = onward_length p.found

  pub differed_room : k ≤ 4096 → length (joined (bodies_from t w (drop 1 vs))) < 2 ^ 32 → (d.at + 68719476736 < 2 ^ 64) × (d.edges + 9227 < 2 ^ 64)
  differed_room h m = (omega (arith, p.low, h), omega (arith, p.edges, m))

  pub differed_step : {v : Vertex} {old : ℕ} {e : Differing} → first_outside vs ≡ length vs → k < length vs → v ≡ get_or vs k none → old ≡ edges_in s k → old < 2 ^ 32
      → BodyTold s d (next_of d.walk v) old (emitted_of t d.walk v) e → Differed t s vs w l₀ (set l k e.what) (k + 1) e
  unfolding differences_from
  differed_step {v} {old} {e} h i ev eo small q =
      let bodies = bodies_next t vs k d.walk i ev q.walk in
      let f : differences_from s k (bodies_from t d.walk (drop k vs)) ≡ (e.what ∷ []) ++ differences_from s (k + 1) (bodies_from t e.walk (drop (k + 1) vs)) =
      ap (differences_from s k) bodies
      ∙ (λ j. difference_of s (sym p.at j) (sym eo j) (emitted_of t d.walk v) ∷ differences_from s (sym (add-one k) j) (bodies_from t e.walk (drop (k + 1) vs)))
      ∙ ap (λ (x : ℕ). x ∷ differences_from s (k + 1) (bodies_from t e.walk (drop (k + 1) vs))) (sym q.what) in
      record {
        around = around_next vs k h i ev p.around q.walk;
        at = q.at ∙ (λ j. p.at j + edge_bytes * eo j) ∙ sym (old_next s k);
        low = omega (arith, q.at, p.low, small);
        edges =
            let m = edges_step t vs k d.walk i ev q.walk in
            omega (arith, q.edges, p.edges, ap length m, length-append (emitted_of t d.walk v) (joined (bodies_from t e.walk (drop (k + 1) vs))));
        found = onward_step (onward_as f p.found) (single_run l k e.what);
      }

  module _ {n old : ℕ} {e : Differing} (en : k ≡ n) (m : length vs ≤ k) (eo : old ≡ edges_in s n) (q : BodyTold s d d.walk old (close_of t d.walk) e) where
    pub end_edges : e.edges ≡ length (joined (bodies_from t w (drop 1 vs)))
    end_edges = omega (arith, q.edges, p.edges, ap length (edges_end t vs k d.walk m))

    pub end_found : Runs put single l₀ 1 (differences_from s 1 (bodies_from t w (drop 1 vs))) (set l n e.what) (n + 1)
    unfolding differences_from
    end_found =
        let f : differences_from s k (bodies_from t d.walk (drop k vs)) ≡ e.what ∷ [] =
        ap (differences_from s k) (bodies_last t vs k d.walk m)
        ∙ (λ j. difference_of s (sym p.at j) ((ap (edges_in s) en ∙ sym eo) j) (close_of t d.walk) ∷ [])
        ∙ ap (λ (x : ℕ). x ∷ []) (sym q.what) in
        rw en at (onward_done (onward_as f p.found) (single_run l k e.what))

-- ---- the first body, which has no edges, and the rest

module _ (g : ℕ) (s : List ℕ) (vs : List Vertex) (l : List ℕ) {l₁ : List ℕ} {e : Edition} {n base old first : ℕ} (own : List ℤ) (f : Fronted s e n) (b : base ≡ front_bytes (Stroke e) n)
    (eo : old ≡ edges_in s 0) (p : DifferenceTold own 0 old s base first) (el : l₁ ≡ set l 0 first) where
  first_is : difference_of s (old_at s 0) (edges_in s 0) [] ≡ first
  first_is = sym (p.each [] (no_edges own) ∙ (λ i. difference_of s (first-at f b i) (eo i) []))

  first_run : Runs put single l 0 (difference_of s (old_at s 0) (edges_in s 0) [] ∷ []) l₁ 1
  first_run = rw (first_is, el) (single_run l 0 first)

  pub none_found : length vs ≡ 0 → n ≡ 0 → Runs put single l 0 (differences_from s 0 (bodies_of g vs)) l₁ (n + 1)
  unfolding bodies_of bodies_at differences_from
  none_found h z = runs_to (ap (λ (k : ℕ). k + 1) z) (runs_as (ap (differences_from s 0) (nothing vs h)) first_run)
    where
      nothing : (us : List Vertex) → length us ≡ 0 → bodies_at (step_of g) us ≡ [] ∷ []
      nothing [] k = refl
      nothing (u ∷ us) k = absurd (omega arith)

  pub all_found : {a : Vertex} {w : Walk} {t : Vector} {l₂ : List ℕ} {end : ℕ} → 0 < length vs → a ≡ get_or vs 0 none → w ≡ start_of a → t ≡ step_of g
      → Runs put single l₁ 1 (differences_from s 1 (bodies_from t w (drop 1 vs))) l₂ end → Runs put single l 0 (differences_from s 0 (bodies_of g vs)) l₂ end
  unfolding bodies_of differences_from
  all_found {t = t} h ea ew et q = runs_as (ap (differences_from s 0) (ap (λ (x : Vector). bodies_at x vs) (sym et) ∙ bodies_first t vs h ea ew)) (runs_then first_run q)

-- ---- the walk from the first vertex on

module _ (vs : List Vertex) {a : Vertex} {w : Walk} (h : 0 < length vs) (ea : a ≡ get_or vs 0 none) (ew : w ≡ start_of a) where
  pub start_walk : first_outside vs ≡ length vs → AroundWalk w
  start_walk i = rw ew (start_around _ (inside_at vs 0 i h ea))

  module _ (g : ℕ) {t : Vector} (et : t ≡ step_of g) where
    pub rest_due : length (joined (bodies_from t w (drop 1 vs))) ≡ length (edges_of g vs)
    unfolding edges_of bodies_of
    rest_due = ap length (sym (edges-start t vs h ea ew) ∙ ap (λ (x : Vector). joined (bodies_at x vs)) et)

    pub rest_few : Edition → length vs ≤ 4096 → length (joined (bodies_from t w (drop 1 vs))) < 2 ^ 32
    rest_few e k = omega (arith, rest_due, few_edges (Stroke e) g vs k)

pub none-due : (g : ℕ) (vs : List Vertex) → length vs ≡ 0 → 0 ≡ length (edges_of g vs)
unfolding edges_of bodies_of
none-due g vs h = sym (ap length (edges-none (step_of g) vs h))

-- ---- and the total

pub total_found : (g : ℕ) (s : List ℕ) (vs : List Vertex) {l l₁ : List ℕ} (n : ℕ) {due old total : ℕ} → Runs put single l 0 (differences_from s 0 (bodies_of g vs)) l₁ (n + 1) → due ≡ length (edges_of g vs) → old ≡ word_at s 4
    → total ≡ total_number old due → Runs put single l 0 (differences_of s g vs) (set l₁ (n + 1) total) (n + 2)
unfolding differences_of
total_found g s vs {l₁ = l₁} n {total = total} p ed eo et =
    runs_to (omega arith) (runs_then p (runs_as (ap (λ (x : ℕ). x ∷ []) (sym (et ∙ (λ i. total_number (eo i) (ed i))))) (single_run l₁ (n + 1) total)))
