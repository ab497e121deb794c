-- Where a walk stands: at the first vertex, one step on, and what its end comes to from there. Assumes nothing.
use mathlib.Core.Path.{◌≡◌, refl, sym, ap, ◌∙◌}
use mathlib.Core.List.{List, [], ◌++◌, append_assoc}
use Prim.Native.Nat.{ℕ, ◌+◌, ◌≤◌, ◌<◌}
use native.Mathlib.Omega.{arith}
use lib.IntN.{ℤ}
use lib.ListN.{length, get_or, drop, length-append}
use lib.Seq.{length-take-le}
use Rattle.runs.specs.Runs.{spread, over, Runs, Room, put}
use Rattle.runs.proofs.Laws.{spread-append, runs_all, runs_as, runs_to, runs_then, room_first, room_as}
use Rattle.runs.proofs.Written.{written-length, written_before, written_behind}
use Rattle.plane.specs.declared.Vector.{Vector}
use Rattle.turning.specs.Edges.{edge_numbers}
use Rattle.folds.specs.Folds.{fold_edges, fold_numbers, SoundFolds, Holds, Edgewise}
use Rattle.turning.specs.declared.Edge.{Edge}
use Rattle.folds.specs.declared.Pen.{Pen}
use Rattle.folds.proofs.Laid.{folds_short, all_sound_append}
use Rattle.folds.proofs.ReadBack.{same_folds}
use Rattle.contacts.specs.Bounds.{Inside}
use Rattle.variable_stroke.specs.Bounds.{AroundWalk}
use Rattle.variable_stroke.specs.Chains.{emitted_of, start_of, next_of}
use Rattle.contacts.specs.Limits.{first_outside}
use Rattle.paths.specs.Paths.{none, bodies_from, bodies_at, joined}
use Rattle.paths.specs.Stands.{first_stand, Begins}
use Rattle.variable_stroke.specs.Steps.{Strides}
use Rattle.contacts.specs.declared.Vertex.{Vertex}
use Rattle.variable_stroke.specs.declared.Walk.{Walk}
use Rattle.variable_stroke.specs.declared.builder.Walked.{Walked}
use Rattle.paths.specs.declared.paths.Stand.{Stand}
use Rattle.contacts.proofs.Allowed.{inside_of_lem}
use Rattle.variable_stroke.proofs.ChainSteps.{start_around, next_around}
use Rattle.contacts.proofs.Contacts.{section_around}
use Rattle.paths.proofs.PathWalk.{allowed_at, edges-start, edges_step}

-- A stand on a path: the edges so far and those that its walk still emits are the path's.
pub record Along (t : Vector) (vs : List Vertex) (s : Stand) : Type 0 where
  pub before : List Edge
  pub edges : joined (bodies_at t vs) ≡ before ++ joined (bodies_from t s.walk (drop s.next vs))
  pub at : s.at ≡ length (spread edge_numbers before)
  pub around : AroundWalk s.walk
  pub next : s.next ≤ length vs

-- ---- from a stand to the end

module _ {t : Vector} {vs : List Vertex} {s : Stand} (h : Along t vs s) where
  along_length : length (spread edge_numbers (joined (bodies_at t vs))) ≡ s.at + length (spread edge_numbers (joined (bodies_from t s.walk (drop s.next vs))))
  along_length =
      let rest = joined (bodies_from t s.walk (drop s.next vs)) in
      omega (arith, h.at, ap (λ (es : List Edge). length (spread edge_numbers es)) h.edges, ap length (spread-append edge_numbers h.before rest), length-append (spread edge_numbers h.before) (spread edge_numbers rest))

  -- past the edges so far there is room for the rest
  pub along_room : Room edge_numbers 0 (joined (bodies_at t vs)) → Room edge_numbers s.at (joined (bodies_from t s.walk (drop s.next vs)))
  along_room r = record { fits = omega (arith, r.fits, along_length) }

  -- wherever the rest is put, the position comes to that of a run of all the path's edges
  pub along_end : (m : List ℤ) {l l₁ : List ℤ} {a : ℕ} → Runs put edge_numbers l s.at (joined (bodies_from t s.walk (drop s.next vs))) l₁ a
      → Runs put edge_numbers m 0 (joined (bodies_at t vs)) (over put m 0 (spread edge_numbers (joined (bodies_at t vs)))) a
  along_end m p = runs_to (omega (arith, p.pos, along_length)) (runs_all m 0 (joined (bodies_at t vs)))

  -- the edges so far, then the rest
  pub along_whole : {l l₁ l₂ : List ℤ} {a : ℕ} → Runs put edge_numbers l 0 h.before l₁ s.at
      → Runs put edge_numbers l₁ s.at (joined (bodies_from t s.walk (drop s.next vs))) l₂ a → Runs put edge_numbers l 0 (joined (bodies_at t vs)) l₂ a
  along_whole p q = runs_as h.edges (runs_then p q)

-- ---- at the first vertex

-- each vertex is within the limits
pub next_inside : (vs : List Vertex) (k : ℕ) {b : Vertex} → first_outside vs ≡ length vs → k < length vs → b ≡ get_or vs k none → Inside b
next_inside vs k inside less is = rw is (inside_of_lem (allowed_at vs k inside less))

pub first_is : {v a : Vertex} {w : Walk} → a ≡ v → w ≡ start_of a → record { walk = w; next = 1; at = 0 } ≡ first_stand v
unfolding first_stand
first_is e f = rw (f, e)

module _ (t : Vector) (vs : List Vertex) {s : Stand} (some : 0 < length vs) (is : s ≡ first_stand (get_or vs 0 none)) where
  first-at : s.at ≡ 0
  unfolding first_stand
  first-at = ap (λ (u : Stand). u.at) is

  -- all the path's edges are still to come
  first-edges : joined (bodies_at t vs) ≡ joined (bodies_from t s.walk (drop s.next vs))
  unfolding first_stand
  first-edges = rw is (edges-start t vs some refl refl)

  pub first_whole : {l l₁ : List ℤ} {a : ℕ} → Runs put edge_numbers l s.at (joined (bodies_from t s.walk (drop s.next vs))) l₁ a → Runs put edge_numbers l 0 (joined (bodies_at t vs)) l₁ a
  first_whole p = runs_as first-edges (rw first-at at p)

  pub along_first : first_outside vs ≡ length vs → Along t vs s
  unfolding first_stand spread
  along_first inside =
      let n : s.next ≡ 1 = ap (λ (u : Stand). u.next) is in
      record { before = []; edges = first-edges; at = first-at; around = rw is (start_around _ (next_inside vs 0 inside some refl)); next = omega arith }

-- ---- a walk begun

-- what is held takes no more numbers than its edges do
begun_short : {pen : Pen} {vs : List Vertex} {l : List ℤ} {s : Stand} (h : Begins pen vs l s) → s.at ≤ length (spread edge_numbers (spread (fold_edges pen.step) h.held))
begun_short {pen} {l = l} {s = s} h =
    omega (arith, ap length h.numbers, length-take-le s.at l h.whole, folds_short pen.step h.held h.sound)

pub begun_along : {pen : Pen} {vs : List Vertex} {l : List ℤ} {s : Stand} {n : ℕ} (h : Begins pen vs l s) → n ≡ length (spread edge_numbers (spread (fold_edges pen.step) h.held))
    → Along pen.step vs (record { walk = s.walk; next = s.next; at = n })
begun_along {pen} h e = record { before = spread (fold_edges pen.step) h.held; edges = h.edges; at = e; around = h.around; next = h.next }

-- what is held, unfolded, and then the rest
pub begun_whole : {pen : Pen} {vs : List Vertex} {l : List ℤ} {s : Stand} {n k a : ℕ} {out out₁ out₂ : List ℤ} (h : Begins pen vs l s) → n ≡ length (spread edge_numbers (spread (fold_edges pen.step) h.held))
    → Runs put edge_numbers out 0 (spread (fold_edges pen.step) h.held) out₁ k → Runs put edge_numbers out₁ n (joined (bodies_from pen.step s.walk (drop s.next vs))) out₂ a
    → Runs put edge_numbers out 0 (joined (bodies_at pen.step vs)) out₂ a
unfolding begun_along
begun_whole h e u q = along_whole (begun_along h e) (runs_to (omega (arith, e, u.pos)) u) q

pub begun_holds : {pen : Pen} {vs : List Vertex} {l : List ℤ} {s : Stand} → Begins pen vs l s → Holds l s.at
begun_holds h = record { held = h.held; sound = h.sound; numbers = h.numbers; whole = h.whole }

pub begun_edgewise : {pen : Pen} {vs : List Vertex} {l : List ℤ} {s : Stand} → Begins pen vs l s → Edgewise pen l s.at
begun_edgewise {pen} h = record { edgewise = λ e fs f i. rw (same_folds fs h.held f h.sound (sym i ∙ h.numbers)) (h.plain e) }

-- there is room for what the walk still emits
pub begun_room : {pen : Pen} {vs : List Vertex} {l : List ℤ} {s : Stand} → Begins pen vs l s → Room edge_numbers 0 (joined (bodies_at pen.step vs))
    → Room edge_numbers s.at (joined (bodies_from pen.step s.walk (drop s.next vs)))
begun_room h r = record { fits = omega (arith, begun_short h, (along_room (begun_along h refl) r).fits) }

-- a step from w to the k-th vertex b: room for it, and the walk after it
module _ (vs : List Vertex) (w : Walk) (k : ℕ) {b : Vertex} (less : k < length vs) (is : b ≡ get_or vs k none) where
  pub next_room : (t : Vector) {at : ℕ} → Room edge_numbers at (joined (bodies_from t w (drop k vs))) → Room edge_numbers at (emitted_of t w b)
  next_room t r = room_first _ _ (room_as (edges_step t vs k w less is refl) r)

  pub next_walk : first_outside vs ≡ length vs → {v : Walk} → v ≡ next_of w b → AroundWalk w → AroundWalk v
  next_walk inside e h =
      let i = next_inside vs k inside less is in
      rw e (next_around _ _ (λ f. section_around h.at i f) h i)

module _ (pen : Pen) (vs : List Vertex) (inside : first_outside vs ≡ length vs) where
  pub begun_first : {s : Stand} {l : List ℤ} → 0 < length vs → s ≡ first_stand (get_or vs 0 none) → Begins pen vs l s
  unfolding spread SoundFolds
  begun_first some is =
      let along = along_first pen.step vs some is inside in
      record { held = []; sound = tt; numbers = rw (first-at pen.step vs some is); whole = omega (arith, first-at pen.step vs some is); plain = λ _. refl; edges = first-edges pen.step vs some is; around = along.around; next = along.next }

  -- a step to the vertex b
  module _ (w : Walk) (k : ℕ) {b : Vertex} (less : k < length vs) (is : b ≡ get_or vs k none) where
    module _ {l l₁ : List ℤ} {at : ℕ} {r : Walked} (p : Strides l at pen w b l₁ r) (h : Begins pen vs l (record { walk = w; next = k; at = at })) where
      -- where the room holds it
      pub begun_step : r.at ≤ length l₁ → Begins pen vs l₁ (record { walk = r.walk; next = k + 1; at = r.at })
      begun_step fits =
          let t = pen.step in
          let more = p.made.held in
          record {
            held = h.held ++ more;
            sound = all_sound_append h.held more h.sound p.made.sound;
            numbers = written_behind (omega (arith, written-length p.made.made)) p.made.made ∙ ap (λ xs. xs ++ spread fold_numbers more) h.numbers ∙ sym (spread-append fold_numbers h.held more);
            whole = fits;
            plain = λ e.
                spread-append fold_numbers h.held more
                ∙ ap (λ xs. xs ++ spread fold_numbers more) (h.plain e)
                ∙ ap (λ xs. spread edge_numbers (spread (fold_edges t) h.held) ++ xs) (p.made.plain e ∙ ap (spread edge_numbers) p.made.edges)
                ∙ sym (spread-append edge_numbers (spread (fold_edges t) h.held) (spread (fold_edges t) more))
                ∙ ap (spread edge_numbers) (sym (spread-append (fold_edges t) h.held more));
            edges =
                h.edges
                ∙ ap (λ es. spread (fold_edges t) h.held ++ es) (edges_step t vs k w less is p.walk ∙ ap (λ es. es ++ joined (bodies_from t r.walk (drop (k + 1) vs))) p.made.edges)
                ∙ sym (append_assoc (spread (fold_edges t) h.held) (spread (fold_edges t) more) (joined (bodies_from t r.walk (drop (k + 1) vs))))
                ∙ ap (λ es. es ++ joined (bodies_from t r.walk (drop (k + 1) vs))) (sym (spread-append (fold_edges t) h.held more));
            around = next_walk vs w k less is inside p.walk h.around;
            next = omega arith;
          }

      -- and where it does not
      pub begun_stays : Begins pen vs l₁ (record { walk = w; next = k; at = at })
      begun_stays = record {
        held = h.held;
        sound = h.sound;
        numbers = written_before at (omega arith) p.made.made ∙ h.numbers;
        whole = omega (arith, h.whole, written-length p.made.made);
        plain = h.plain;
        edges = h.edges;
        around = h.around;
        next = h.next;
      }
