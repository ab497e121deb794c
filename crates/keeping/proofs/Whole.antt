-- A whole outline: the header, then table and bodies side by side, from the first entry on. Assumes nothing.
use mathlib.Core.Path.{◌≡◌, ap}
use mathlib.Core.List.{List, [], ◌∷◌, ◌++◌}
use Prim.Native.Nat.{ℕ, ◌*◌, ◌≤◌, ◌<◌}
use native.Mathlib.Omega.{arith}
use lib.ListN.{length, get_or, drop}
use Rattle.runs.specs.Runs.{spread, over, Runs, put}
use Rattle.runs.proofs.Laws.{runs_to, runs_then}
use Rattle.plane.specs.Directions.{step_of}
use Rattle.plane.specs.declared.Vector.{Vector}
use Rattle.variable_stroke.specs.Chains.{start_of}
use Rattle.paths.specs.Paths.{none, bodies_of, edges_of}
use Rattle.contacts.specs.declared.Vertex.{Vertex}
use Rattle.variable_stroke.specs.declared.Walk.{Walk}
use Rattle.outline.specs.Layout.{stroke_bytes, header_bytes, front_bytes}
use Rattle.words.specs.Words.{four_bytes}
use Rattle.outline.specs.declared.Edition.{Edition}
use Rattle.outline.specs.Outlines.{header_of, entry_of, table_of, body_words, parts_words, outline_words}
use Rattle.outline.specs.Parts.{table_from, words_from}
use Rattle.keeping.specs.Fills.{Apart, Both}
use Rattle.outline.proofs.FormLengths.{entries_most}
use Rattle.outline.proofs.Parts.{entry_bytes_lem, header_bytes_lem, table_bytes_lem, bodies_bytes, table_none, table_start, bodies_none, bodies_start}
use Rattle.keeping.proofs.TwoRuns.{longer, both_as, both_first, both_one}
use Rattle.outline.proofs.ReadBack.{few_edges}
use Rattle.outline.specs.declared.Form.TheVariants.{Stroke}

-- ---- a path without vertices

pub fill_none : (d : Edition) (g : ℕ) (ps : List ℕ) (vs : List Vertex) {l l' : List ℕ} {b e r : ℕ} → length vs ≡ 0 → r ≡ b → Runs put four_bytes l (header_bytes (Stroke d)) (0 ∷ []) l' e
    → Both l (header_bytes (Stroke d)) (table_of d ps vs (bodies_of g vs)) b (body_words (edges_of g vs)) l' r
unfolding bodies_of edges_of spread over
fill_none d g ps vs h k p = both_as (table_none d (step_of g) ps vs h) (bodies_none (step_of g) vs h) (record { out = p.out; pos = omega arith })

-- ---- a path with vertices: a is the first, w the walk there and t the step

module _ (d : Edition) (g : ℕ) (ps : List ℕ) (vs : List Vertex) {a : Vertex} {post : ℕ} {w : Walk} {t : Vector} (some : 0 < length vs) (ea : a ≡ get_or vs 0 none) (ep : post ≡ get_or ps 0 0) (ew : w ≡ start_of a) (et : t ≡ step_of g) where
  all_table : table_of d ps vs (bodies_of g vs) ≡ entry_of d a post 0 ++ table_from d t w (drop 1 ps) (drop 1 vs)
  unfolding bodies_of
  all_table = rw et (table_start d (step_of g) ps vs some ea ep ew)

  all_words : body_words (edges_of g vs) ≡ words_from t w (drop 1 vs)
  unfolding bodies_of edges_of
  all_words = rw et (bodies_start (step_of g) vs some ea ew)

  module _ {l l₁ : List ℕ} {p n b : ℕ} (q : Runs put four_bytes l (header_bytes (Stroke d)) (entry_of d a post 0) l₁ p) (en : n ≡ length vs) (eb : b ≡ front_bytes (Stroke d) n) where
    pub rest_apart : length vs ≤ 4096 → Apart p (table_from d t w (drop 1 ps) (drop 1 vs)) b (words_from t w (drop 1 vs))
    rest_apart few = record {
      apart = omega (arith, q.pos, longer (entry_of d a post 0) (table_from d t w (drop 1 ps) (drop 1 vs)), ap (λ (ws : List ℕ). length (spread four_bytes ws)) all_table, table_bytes_lem (Stroke d) g ps vs, ap (λ (x : ℕ). stroke_bytes d * x) en, entry_bytes_lem d a post 0);
      fits = omega (arith, ap (λ (ws : List ℕ). length (spread four_bytes ws)) all_words, bodies_bytes (edges_of g vs), few_edges (Stroke d) g vs few, entries_most d n, ap (λ (x : ℕ). stroke_bytes d * x) en, en);
    }

    pub fill_all : {l₂ : List ℕ} {e : ℕ} → Both l₁ p (table_from d t w (drop 1 ps) (drop 1 vs)) b (words_from t w (drop 1 vs)) l₂ e → Both l (header_bytes (Stroke d)) (table_of d ps vs (bodies_of g vs)) (front_bytes (Stroke d) n) (body_words (edges_of g vs)) l₂ e
    fill_all r = rw eb at (both_as all_table all_words (both_first q r))

-- ---- and the header before it

pub outline_written : (d : Edition) (g : ℕ) (ps : List ℕ) (vs : List Vertex) {n m h b e : ℕ} {l l₁ l₂ : List ℕ} → n ≡ length vs → m ≡ length (edges_of g vs) → b ≡ front_bytes (Stroke d) n
    → Runs put four_bytes l 0 (header_of (Stroke d) g n m) l₁ h → Both l₁ (header_bytes (Stroke d)) (table_of d ps vs (bodies_of g vs)) b (body_words (edges_of g vs)) l₂ e → Runs put four_bytes l 0 (outline_words (Stroke d) g ps vs) l₂ e
unfolding outline_words parts_words edges_of
outline_written d g ps vs {n} {m} en em eb p q =
    runs_then (runs_to (omega (arith, header_bytes_lem (Stroke d) g n m, p.pos)) (rw (en, em) at p)) (both_one (omega (arith, table_bytes_lem (Stroke d) g ps vs, ap (λ (x : ℕ). stroke_bytes d * x) en)) q)
