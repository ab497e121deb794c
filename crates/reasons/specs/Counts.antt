-- What counting a step comes to.
use Rattle.std.specs.Prelude.{◌≡◌, length}
use Rattle.plane.specs.declared.Vector.{Vector}
use Rattle.contacts.specs.declared.Vertex.{Vertex}
use Rattle.variable_stroke.specs.Chains.{emitted_of, next_of}
use Rattle.variable_stroke.specs.declared.Walk.{Walk}
use Rattle.reasons.specs.declared.counts.Counted.{Counted}

-- the walk after the step, and how many edges it emits
pub record Counts (t : Vector) (w : Walk) (b : Vertex) (r : Counted) : Type 0 where
  pub walk : r.walk ≡ next_of w b
  pub count : r.count ≡ length (emitted_of t w b)
