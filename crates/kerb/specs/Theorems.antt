-- Document 02, request 3: what is proved of kerbs.
use Rattle.std.specs.Prelude.{◌≡◌, List, ℕ, ◌+◌, ◌*◌, ◌≤◌, length}
use Rattle.runs.specs.Runs.{spread}
use Rattle.turning.specs.Bounds.{Radius, AllReach}
use Rattle.turning.specs.declared.Edge.{Edge}
use Rattle.contacts.specs.declared.Vertex.{Vertex}
use Rattle.kerb.specs.Kerbs.{kerb_bodies, kerb_edges}
use Rattle.kerb.specs.Bounds.{KerbPoints}
use Rattle.kerb.specs.declared.Style.{Style}

-- A kerb's edges are its three bodies, one after another.
abbrev pub EdgesAreBodies : Type 0
EdgesAreBodies = (g : ℕ) (y : Style) (vs : List Vertex) → kerb_edges g y vs ≡ spread (λ (b : List Edge). b) (kerb_bodies g y vs)

-- No kerb has more than 1,541 edges a point and 2 more.
abbrev pub KerbMost : Type 0
KerbMost = (g : ℕ) (y : Style) (vs : List Vertex) → length (kerb_edges g y vs) ≤ 1541 * length vs + 2

-- No edge of a kerb within the limits ends farther than 2^29 from the origin, in either coordinate.
abbrev pub KerbReach : Type 0
KerbReach = (g : ℕ) (y : Style) (vs : List Vertex) → Radius y.radius → KerbPoints y vs → AllReach (kerb_edges g y vs)
