-- A step's edges from numbers of our own into an outline: their count into the table, their words into the bodies. Assumes nothing.
use mathlib.Core.Path.{◌≡◌, refl, ap}
use mathlib.Core.List.{List, [], ◌∷◌}
use Prim.Native.Nat.{ℕ, ◌+◌, ◌*◌, ◌/◌, ◌≤◌, ◌<◌}
use lib.IntN.{ℤ}
use lib.ListN.{length, get_or, take, drop}
use Rattle.runs.specs.Runs.{Runs, put}
use Rattle.runs.proofs.Laws.{runs_as}
use Rattle.plane.specs.declared.Vector.{Vector}
use Rattle.turning.specs.Edges.{edge_numbers}
use Rattle.turning.specs.Bounds.{Most}
use Rattle.turning.specs.declared.Edge.{Edge}
use Rattle.variable_stroke.specs.Chains.{emitted_of, close_of}
use Rattle.paths.specs.Paths.{none}
use Rattle.variable_stroke.specs.Steps.{Walks}
use Rattle.paths.proofs.Most.{emitted_most}
use Rattle.contacts.specs.declared.Vertex.{Vertex}
use Rattle.variable_stroke.specs.declared.builder.Walked.{Walked}
use Rattle.words.specs.Words.{words_of, four_bytes}
use Rattle.outline.specs.declared.Edition.{Edition}
use Rattle.outline.specs.Outlines.{entry_of, body_words}
use Rattle.outline.specs.Parts.{table_from, words_from}
use Rattle.keeping.specs.Fills.{Apart, Both, StepFills}
use Rattle.keeping.specs.declared.filling.Filling.{Filling}
use Rattle.outline.proofs.OwnNumbers.{own_count, own_words}
use Rattle.outline.proofs.Parts.{table_step, table_end, bodies_step, bodies_end}
use Rattle.keeping.proofs.TwoRuns.{apart_as, apart-first, both_of, Filled, filled_start, filled_as, filled_step, filled_done}

pub end_filled : {l₀ l₁ l₂ : List ℕ} {o₀ o₁ : List ℤ} {es : List Edge} {n a b c e : ℕ} → Most 9227 es → 4 * length es ≤ length o₀ → Runs put edge_numbers o₀ 0 es o₁ n
    → Runs put four_bytes l₀ a (n / 4 ∷ []) l₁ c → Runs put four_bytes l₁ b (words_of (take n o₁)) l₂ e → Both l₀ a (length es ∷ []) b (body_words es) l₂ e
end_filled m h o p q = both_of (runs_as (ap (λ (k : ℕ). k ∷ []) (own_count m o)) p) (runs_as (own_words m o h) q)

pub step_filled : {l₀ l₁ l₂ : List ℕ} {o₀ o₁ : List ℤ} (e : Edition) {t : Vector} {f : Filling} (v : Vertex) (post : ℕ) {r : Walked} {a b : ℕ} → 4 * length (emitted_of t f.walk v) ≤ length o₀ → Walks o₀ 0 t f.walk v o₁ r
    → Runs put four_bytes l₀ f.table (entry_of e v post (r.at / 4)) l₁ a → Runs put four_bytes l₁ f.bodies (words_of (take r.at o₁)) l₂ b
    → StepFills e t l₀ f v post l₂ (record { walk = r.walk; table = a; bodies = b })
step_filled e {t = t} {f} v post h o p q =
    let m = emitted_most t f.walk v in
    let i = runs_as (ap (λ (k : ℕ). entry_of e v post k) (own_count m o.made)) p in
    record { walk = o.walk; table = i.pos; both = both_of i (runs_as (own_words m o.made h) q) }

-- ---- where filling has come to at vertex k, from where it began at k₀

pub record FilledTo (d : Edition) (t : Vector) (ps : List ℕ) (vs : List Vertex) (k₀ : ℕ) (l₀ : List ℕ) (f₀ : Filling) (k : ℕ) (l : List ℕ) (f : Filling) : Type 0 where
  pub to : Filled l₀ f₀.table (table_from d t f₀.walk (drop k₀ ps) (drop k₀ vs)) f₀.bodies (words_from t f₀.walk (drop k₀ vs))
      l f.table (table_from d t f.walk (drop k ps) (drop k vs)) f.bodies (words_from t f.walk (drop k vs))

module _ (d : Edition) (t : Vector) (ps : List ℕ) (vs : List Vertex) where
  pub fill_begins : {k : ℕ} {l : List ℕ} {f : Filling} → Apart f.table (table_from d t f.walk (drop k ps) (drop k vs)) f.bodies (words_from t f.walk (drop k vs)) → FilledTo d t ps vs k l f k l f
  fill_begins h = record { to = filled_start h }

  module _ {k₀ k : ℕ} {l₀ l : List ℕ} {f₀ f : Filling} (h : FilledTo d t ps vs k₀ l₀ f₀ k l f) where
    module _ {b : Vertex} {post : ℕ} (i : k < length vs) (e : b ≡ get_or vs k none) (j : post ≡ get_or ps k 0) where
      pub step_apart : Apart f.table (entry_of d b post (length (emitted_of t f.walk b))) f.bodies (body_words (emitted_of t f.walk b))
      step_apart = apart-first _ _ (apart_as (table_step d t ps vs k f.walk i e j refl) (bodies_step t vs k f.walk i e refl) h.to.left)

      pub step_on : {l₁ : List ℕ} {g : Filling} → StepFills d t l f b post l₁ g → FilledTo d t ps vs k₀ l₀ f₀ (k + 1) l₁ g
      step_on m = record { to = filled_step (filled_as (table_step d t ps vs k f.walk i e j m.walk) (bodies_step t vs k f.walk i e m.walk) h.to) m.table m.both }

    module _ (i : length vs ≤ k) where
      pub end_apart : Apart f.table (length (close_of t f.walk) ∷ []) f.bodies (body_words (close_of t f.walk))
      end_apart = apart_as (table_end d t ps vs k f.walk i) (bodies_end t vs k f.walk i) h.to.left

      pub end_on : {l' : List ℕ} {e : ℕ} → Both l f.table (length (close_of t f.walk) ∷ []) f.bodies (body_words (close_of t f.walk)) l' e
          → Both l₀ f₀.table (table_from d t f₀.walk (drop k₀ ps) (drop k₀ vs)) f₀.bodies (words_from t f₀.walk (drop k₀ vs)) l' e
      end_on m = filled_done (filled_as (table_end d t ps vs k f.walk i) (bodies_end t vs k f.walk i) h.to) m
