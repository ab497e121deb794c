-- Own numbers, in which a step's edges stand on their way into a store, or while they are held against one: how many there must be. Fewer are zeroed sooner.
use Rattle.std.specs.Prelude.{true, false, ℕ, ◌*◌, ◌≤◌, ltb, length}
use Rattle.plane.specs.Directions.{step_of}
use Rattle.plane.specs.declared.Vector.{Vector}
use Rattle.contacts.specs.declared.Vertex.{Vertex}
use Rattle.variable_stroke.specs.Chains.{emitted_of, close_of}
use Rattle.variable_stroke.specs.declared.Walk.{Walk}

-- Document 02, request 12: up to grade 4 a step has no more than 148 edges, at any grade no more than 2,068. An edge is four numbers.
unfoldable pub step_numbers : ℕ → ℕ
step_numbers g = elim (ltb 4 g) [ true ↦ 8272 | false ↦ 592 ]

-- k numbers hold whatever a walk by steps of t emits on its way to a vertex, and at its end.
pub record StepRoom (t : Vector) (k : ℕ) : Type 0 where
  pub step : (w : Walk) (b : Vertex) → 4 * length (emitted_of t w b) ≤ k
  pub end : (w : Walk) → 4 * length (close_of t w) ≤ k

-- So many do.
abbrev pub StepsHeld : Type 0
StepsHeld = (g k : ℕ) → 1 ≤ g → g ≤ 8 → step_numbers g ≤ k → StepRoom (step_of g) k
