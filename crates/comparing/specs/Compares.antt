-- What the functions that compare a store with the outline of a path promise: how far its table agrees, and how far its bodies do.
use Rattle.std.specs.Prelude.{◌≡◌, List, [], ◌∷◌, ℕ, ◌+◌, ℤ, length}
use Rattle.runs.specs.Runs.{Runs, agree}
use Rattle.plane.specs.declared.Vector.{Vector}
use Rattle.variable_stroke.specs.Chains.{emitted_of, next_of, close_of}
use Rattle.contacts.specs.declared.Vertex.{Vertex}
use Rattle.outline.specs.Layout.{header_bytes, front_bytes}
use Rattle.words.specs.Words.{four_bytes}
use Rattle.outline.specs.declared.Edition.{Edition}
use Rattle.outline.specs.Outlines.{entry_of, body_words, table_for, edges_for}
use Rattle.outline.specs.declared.Form.{Form}
use Rattle.outline.specs.declared.Form.TheVariants.{Stroke, Kerb}
use Rattle.paths.specs.Paths.{path_of}
use Rattle.kerb_paths.specs.Points.{kerb_path}
use Rattle.comparing.specs.declared.compare.Comparing.{Comparing}
use Rattle.comparing.specs.declared.Compared.{Compared}

-- a step to the vertex v: its entry and its body
pub record StepAgrees (e : Edition) (t : Vector) (s : List ℕ) (c : Comparing) (v : Vertex) (post : ℕ) (d : Comparing) : Type 0 where
  pub walk : d.walk ≡ next_of c.walk v
  pub table : Runs (agree s) four_bytes c.table c.entry (entry_of e v post (length (emitted_of t c.walk v))) d.table d.entry
  pub bodies : Runs (agree s) four_bytes c.bodies c.at (body_words (emitted_of t c.walk v)) d.bodies d.at

-- the end: the closing count and the closing edges
pub record EndAgrees (t : Vector) (s : List ℕ) (c : Comparing) (r : Compared) : Type 0 where
  pub table : Runs (agree s) four_bytes c.table c.entry (length (close_of t c.walk) ∷ []) r.table (c.entry + 4)
  pub bodies : Runs (agree s) four_bytes c.bodies c.at (body_words (close_of t c.walk)) r.bodies r.end

-- The path in lent numbers: three a vertex, of a kerb two.
abbrev pub lent_path : Form → List ℤ → List Vertex
lent_path (Stroke e) l = path_of l
lent_path (Kerb y) l = kerb_path y.radius l

-- the whole table after the header, and all bodies after it
pub record Agrees (s : List ℕ) (f : Form) (g : ℕ) (ps : List ℕ) (vs : List Vertex) (r : Compared) : Type 0 where
  pub table : Runs (agree s) four_bytes (header_bytes f) (header_bytes f) (table_for f g ps vs) r.table (front_bytes f (length vs))
  pub bodies : Runs (agree s) four_bytes (front_bytes f (length vs)) (front_bytes f (length vs)) (body_words (edges_for f g vs)) r.bodies r.end
