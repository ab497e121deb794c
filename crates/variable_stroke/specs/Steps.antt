-- What the steps of chains and walks hand back, and which edges they have put.
use Rattle.std.specs.Prelude.{◌≡◌, List, ℕ, ℤ, Some}
use Rattle.runs.specs.Runs.{Runs, put}
use Rattle.plane.specs.declared.Vector.{Vector}
use Rattle.turning.specs.Edges.{edge_numbers}
use Rattle.folds.specs.Pens.{Lays}
use Rattle.folds.specs.declared.Pen.{Pen}
use Rattle.variable_stroke.specs.Chains.{fresh_of, finish_of, drawn_of, leave_edges, leave_chain, leave_closing, marked_of, emitted_of, next_of}
use Rattle.contacts.specs.declared.Vertex.{Vertex}
use Rattle.contacts.specs.declared.Section.{Section}
use Rattle.joins.specs.declared.Cap.{Cap}
use Rattle.variable_stroke.specs.declared.Chain.{Chain}
use Rattle.variable_stroke.specs.declared.Walk.{Walk}
use Rattle.variable_stroke.specs.declared.builder.Stepped.{Stepped}
use Rattle.variable_stroke.specs.declared.builder.Left.{Left}
use Rattle.variable_stroke.specs.declared.builder.Walked.{Walked}

-- a chain finished with a cap: its edges, and the chain as it was
pub record Finishes (l₀ : List ℤ) (at : ℕ) (pen : Pen) (c : Chain) (k : Cap) (l₁ : List ℤ) (r : Stepped) : Type 0 where
  pub chain : r.chain ≡ c
  pub made : Lays pen.step pen.folds l₀ at (finish_of pen.step c k) l₁ r.at

-- a chain started: no edges
pub record Starts (a₀ : ℕ) (v : Vertex) (k : Cap) (r : Stepped) : Type 0 where
  pub chain : r.chain ≡ fresh_of v k
  pub at : r.at ≡ a₀

-- a chain after a drawn step
pub record Extends (l₀ : List ℤ) (at : ℕ) (pen : Pen) (c : Chain) (s : Section) (l₁ : List ℤ) (r : Stepped) : Type 0 where
  pub chain : r.chain ≡ marked_of c (Some s)
  pub made : Lays pen.step pen.folds l₀ at (drawn_of pen.step c s) l₁ r.at

-- a chain after a thin step: no edges
pub record Marks (a₀ : ℕ) (c : Chain) (r : Stepped) : Type 0 where
  pub chain : r.chain ≡ marked_of c c.last
  pub at : r.at ≡ a₀

-- a chain that a covered vertex may have ended
pub record Leaves (l₀ : List ℤ) (at : ℕ) (pen : Pen) (w : Walk) (b : Vertex) (l₁ : List ℤ) (r : Left) : Type 0 where
  pub chain : r.chain ≡ leave_chain w b
  pub closing : r.closing ≡ leave_closing w.previous b
  pub made : Lays pen.step pen.folds l₀ at (leave_edges pen.step w b) l₁ r.at

-- a walk after a step with a pen
pub record Strides (l₀ : List ℤ) (at : ℕ) (pen : Pen) (w : Walk) (b : Vertex) (l₁ : List ℤ) (r : Walked) : Type 0 where
  pub walk : r.walk ≡ next_of w b
  pub made : Lays pen.step pen.folds l₀ at (emitted_of pen.step w b) l₁ r.at

-- a walk after a step, edge by edge
pub record Walks (l₀ : List ℤ) (at : ℕ) (t : Vector) (w : Walk) (b : Vertex) (l₁ : List ℤ) (r : Walked) : Type 0 where
  pub walk : r.walk ≡ next_of w b
  pub made : Runs put edge_numbers l₀ at (emitted_of t w b) l₁ r.at
