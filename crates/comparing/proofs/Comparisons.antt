-- A store compared with the outline of a path, vertex by vertex: where the comparison of its table and its bodies has come to. Assumes nothing.
use mathlib.Core.Path.{◌≡◌, ap}
use mathlib.Core.List.{List, [], ◌∷◌}
use Prim.Native.Nat.{ℕ, ◌+◌, ◌*◌, ◌^◌, ◌≤◌, ◌<◌}
use native.Mathlib.Nat.{add-zero}
use native.Mathlib.Omega.{arith}
use lib.ListN.{length, get_or, drop}
use Rattle.runs.specs.Runs.{spread, Runs, agree}
use Rattle.runs.proofs.Laws.{runs_none, runs_as, runs_to}
use Rattle.runs.proofs.Onward.{Onward, onward_start, onward_step, onward_as, onward_done, onward_pos}
use Rattle.plane.specs.Directions.{step_of}
use Rattle.plane.specs.declared.Vector.{Vector}
use Rattle.contacts.specs.Limits.{first_outside}
use Rattle.variable_stroke.specs.Chains.{start_of}
use Rattle.paths.specs.Paths.{none, bodies_of, edges_of}
use Rattle.variable_stroke.specs.Bounds.{AroundWalk}
use Rattle.contacts.specs.declared.Vertex.{Vertex}
use Rattle.variable_stroke.specs.declared.Walk.{Walk}
use Rattle.paths.proofs.Most.{edges_most}
use Rattle.variable_stroke.proofs.ChainSteps.{start_around}
use Rattle.outline.specs.Layout.{stroke_bytes, header_bytes, least_bytes, front_bytes}
use Rattle.outline.proofs.FormLengths.{entry_most, entries_most}
use Rattle.words.specs.Words.{four_bytes}
use Rattle.outline.specs.declared.Edition.{Edition}
use Rattle.outline.specs.Outlines.{post_words, entry_of, table_of, body_words}
use Rattle.outline.specs.declared.Edition.TheVariants.{First, Second}
use Rattle.outline.specs.Parts.{table_from, words_from}
use Rattle.comparing.specs.Compares.{StepAgrees, EndAgrees, Agrees}
use Rattle.comparing.specs.declared.compare.Comparing.{Comparing}
use Rattle.comparing.specs.declared.Compared.{Compared}
use Rattle.paths.proofs.PathWalk.{inside_at, around_next}
use Rattle.outline.proofs.Parts.{table_bytes_lem, bodies_bytes, bodies_none, bodies_start, bodies_step, bodies_end, table_none, table_start, table_step, table_end}
use Rattle.outline.specs.declared.Form.TheVariants.{Stroke}

-- ---- a post, by its edition

pub agree-first_post : (s : List ℕ) {ok : ℕ} (at post : ℕ) {e : Edition} → e ≡ First → Runs (agree s) four_bytes ok at (post_words e post) ok (at + length (spread four_bytes (post_words e post)))
unfolding post_words spread
agree-first_post s at post q = rw q (runs_to (add-zero at) runs_none)

pub agree-second_post : (s : List ℕ) {ok r : ℕ} (at post : ℕ) {e : Edition} → e ≡ Second → Runs (agree s) four_bytes ok at (post ∷ []) r (at + 4) → Runs (agree s) four_bytes ok at (post_words e post) r (at + length (spread four_bytes (post_words e post)))
unfolding post_words spread four_bytes
agree-second_post s at post q p = rw q p

-- ---- where a comparison has come to: b is where the bodies start, k the next vertex

pub record Going (d : Edition) (g : ℕ) (s ps : List ℕ) (vs : List Vertex) (b k : ℕ) (c : Comparing) : Type 0 where
  pub around : AroundWalk c.walk
  pub table : Onward (agree s) four_bytes (header_bytes (Stroke d)) (header_bytes (Stroke d)) (table_of d ps vs (bodies_of g vs)) c.table c.entry (table_from d (step_of g) c.walk (drop k ps) (drop k vs))
  pub bodies : Onward (agree s) four_bytes b b (body_words (edges_of g vs)) c.bodies c.at (words_from (step_of g) c.walk (drop k vs))

module _ (d : Edition) {g : ℕ} {s : List ℕ} (ps : List ℕ) (vs : List Vertex) {b : ℕ} where
  pub going_start : {a : Vertex} {w : Walk} {post first wide : ℕ} → first_outside vs ≡ length vs → 0 < length vs → a ≡ get_or vs 0 none → post ≡ get_or ps 0 0 → w ≡ start_of a → wide ≡ stroke_bytes d
      → Runs (agree s) four_bytes (header_bytes (Stroke d)) (header_bytes (Stroke d)) (entry_of d a post 0) first (20 + stroke_bytes d) → Going d g s ps vs b 1 (record { walk = w; table = first; entry = 20 + wide; bodies = b; at = b })
  unfolding bodies_of edges_of
  going_start h l e j f i p = record {
    around = rw f (start_around _ (inside_at vs 0 h l e));
    table = onward_step (onward_as (table_start d (step_of g) ps vs l e j f) onward_start) (runs_to (omega (arith, i)) p);
    bodies = onward_as (bodies_start (step_of g) vs l e f) onward_start;
  }

  pub going_step : (k : ℕ) {t : Vector} {c c' : Comparing} {v : Vertex} {post : ℕ} → t ≡ step_of g → first_outside vs ≡ length vs → k < length vs → v ≡ get_or vs k none → post ≡ get_or ps k 0
      → Going d g s ps vs b k c → StepAgrees d t s c v post c' → Going d g s ps vs b (k + 1) c'
  going_step k {t} {c} {c'} {v} {post} et h l e j p q =
      let m : StepAgrees d (step_of g) s c v post c' = rw et at q in
      record {
        around = around_next vs k h l e p.around m.walk;
        table = onward_step (onward_as (table_step d (step_of g) ps vs k c.walk l e j m.walk) p.table) m.table;
        bodies = onward_step (onward_as (bodies_step (step_of g) vs k c.walk l e m.walk) p.bodies) m.bodies;
      }

  -- no position wraps
  module _ {k : ℕ} {c : Comparing} (few : length vs ≤ 4096) (e : b ≡ front_bytes (Stroke d) (length vs)) (p : Going d g s ps vs b k c) where
    pub going_entry : c.entry + stroke_bytes d < 2 ^ 64
    going_entry = omega (arith, onward_pos p.table, table_bytes_lem (Stroke d) g ps vs, entries_most d (length vs), (entry_most d).1)

    pub going_at : c.at + 147632 < 2 ^ 64
    going_at = omega (arith, onward_pos p.bodies, bodies_bytes (edges_of g vs), edges_most g vs, entries_most d (length vs))

  pub going_end : (k : ℕ) {t : Vector} {c : Comparing} {r : Compared} → t ≡ step_of g → length vs ≤ k → b ≡ front_bytes (Stroke d) (length vs) → Going d g s ps vs b k c → EndAgrees t s c r → Agrees s (Stroke d) g ps vs r
  going_end k {t} {c} {r} et l e p q =
      let m : EndAgrees (step_of g) s c r = rw et at q in
      let u = onward_done (onward_as (table_end d (step_of g) ps vs k c.walk l) p.table) m.table in
      record {
        table = runs_to (omega (arith, u.pos, table_bytes_lem (Stroke d) g ps vs)) u;
        bodies = rw e at (onward_done (onward_as (bodies_end (step_of g) vs k c.walk l) p.bodies) m.bodies);
      }

  -- no vertex
  pub meets_none : {t : ℕ} → length vs ≡ 0 → b ≡ front_bytes (Stroke d) (length vs) → Runs (agree s) four_bytes (header_bytes (Stroke d)) (header_bytes (Stroke d)) (0 ∷ []) t (least_bytes (Stroke d)) → Agrees s (Stroke d) g ps vs (record { table = t; bodies = b; end = b })
  unfolding bodies_of edges_of
  meets_none h e p = record {
    table = runs_to (omega (arith, ap (λ (n : ℕ). stroke_bytes d * n) h)) (runs_as (table_none d (step_of g) ps vs h) p);
    bodies = rw e (runs_as (bodies_none (step_of g) vs h) runs_none);
  }
