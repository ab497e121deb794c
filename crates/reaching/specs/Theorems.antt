-- Theorems over the definitions: the call has one outcome, reply 0 is reached, and what its number says of the path.
use Rattle.std.specs.Prelude.{◌≡◌, true, false, List, ◌++◌, ℕ, ◌+◌, ◌≤◌, ◌<◌, length, Result}
use Rattle.contacts.specs.declared.Vertex.{Vertex}
use Rattle.locality.specs.Local.{settled_to}
use Rattle.outline.specs.Outlines.{outline_bytes}
use Rattle.outline.specs.Theorems.{Formed}
use Rattle.outline.specs.declared.Edition.{Edition}
use Rattle.outline.specs.Stores.{path_in}
use Rattle.outline.specs.declared.Form.TheVariants.{Stroke}
use Rattle.reaching.specs.Replies.{reached_of, reach_reply, Reaches}
use Rattle.replies.specs.declared.Refusal.{Refusal}

-- Document 01, "Promises and hollow programs": two outcomes that the call's promise allows coincide.
abbrev pub OneReach : Type 0
OneReach = (s : List ℕ) (k : ℕ) (r q : Result ℕ Refusal) → Reaches s k r → Reaches s k q → r ≡ q

-- Of an outline, whatever bytes stand after it, the call tells the reach of each vertex.
abbrev pub KeptIsReached : Type 0
KeptIsReached = (e : Edition) (g : ℕ) (ps : List ℕ) (vs : List Vertex) (rest : List ℕ) (k : ℕ) → Formed (Stroke e) g ps vs → k < length vs
    → reach_reply (outline_bytes (Stroke e) g ps vs ++ rest) k ≡ (0, reached_of vs k)

-- The number j that the call gives is the first vertex at k + 2 or later that is reached by a drawn or broken step, as demand 3's is (`ReachIsFirst`,
-- locality/specs/Local.antt); where it is the number of vertices, there is none.
abbrev pub NumberIsFirst : Type 0
NumberIsFirst = (s : List ℕ) (k j : ℕ) → reach_reply s k ≡ (0, j)
    → (j ≤ length (path_in s))
    × ((i : ℕ) → k + 2 ≤ i → i < j → settled_to (path_in s) i ≡ false)
    × (j < length (path_in s) → (k + 2 ≤ j) × (settled_to (path_in s) j ≡ true))
