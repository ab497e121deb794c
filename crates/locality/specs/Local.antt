-- How far a change reaches (demand 3), over the bodies that the rules give.
use Rattle.std.specs.Prelude.{◌≡◌, Bool, true, false, List, [], ◌∷◌, ℕ, suc, ◌+◌, ◌-◌, ◌≤◌, ◌<◌, length, get_or, take, drop, set, Option, Some, None}
use Rattle.plane.specs.declared.Vector.{Vector}
use Rattle.contacts.specs.declared.Section.{Section}
use Rattle.contacts.specs.Contacts.{kind_of}
use Rattle.variable_stroke.specs.Chains.{next_of}
use Rattle.paths.specs.Paths.{none, bodies_from, bodies_of}
use Rattle.contacts.specs.declared.Vertex.{Vertex}
use Rattle.contacts.specs.declared.Kind.{Kind}
use Rattle.contacts.specs.declared.Kind.TheVariants.{Broken, Drawn, Thin}
use Rattle.joins.specs.declared.Cap.TheVariants.{Round}
use Rattle.variable_stroke.specs.declared.Chain.{Chain}
use Rattle.variable_stroke.specs.declared.Walk.{Walk}

-- ---- before the change

-- The body of a vertex depends only on the vertices up to it: paths that begin with the same k vertices have the same first k bodies.
abbrev pub BodiesFromBefore : Type 0
BodiesFromBefore = (g : ℕ) (vs us : List Vertex) (k : ℕ) → take k vs ≡ take k us → take k (bodies_of g vs) ≡ take k (bodies_of g us)

-- With another vertex at k, the bodies before k stay as they were.
abbrev pub EarlierKept : Type 0
EarlierKept = (g : ℕ) (vs : List Vertex) (k : ℕ) (v : Vertex) → take k (bodies_of g (set vs k v)) ≡ take k (bodies_of g vs)

-- ---- what later bodies can see of a walk

-- Of a chain with a last section only that section is seen; of a walk, not its closing cap, which the next step sets anew.
unfoldable pub seen_last : Option Section → Chain → Chain
seen_last None c = c
seen_last (Some s) c = record { start = s.a; cap = Round; last = Some s; mark = true }

unfoldable pub seen_chain : Chain → Chain
seen_chain c = seen_last c.last c

unfoldable pub seen : Walk → Walk
seen w = record { at = w.at; chain = seen_chain w.chain; previous = w.previous; closing = Round }

-- Walks of which the same is seen emit alike from the next vertex on.
abbrev pub AlikeEmitAlike : Type 0
AlikeEmitAlike = (t : Vector) (u w : Walk) (b : Vertex) (bs : List Vertex) → seen u ≡ seen w → bodies_from t u (b ∷ bs) ≡ bodies_from t w (b ∷ bs)

-- a step that is drawn or broken settles what is seen after it
unfoldable pub settles : Kind → Bool
settles Broken = true
settles Drawn = true
settles Thin = false

-- Such a step from the same vertex to the same vertex makes any two walks alike.
abbrev pub SettledAlike : Type 0
SettledAlike = (u w : Walk) (b : Vertex) → u.at ≡ w.at → settles (kind_of u.at b) ≡ true → seen (next_of u b) ≡ seen (next_of w b)

-- ---- after the change

-- Let the step from vertex i to vertex i + 1 be drawn or broken, and both stand after k: every body after vertex i + 1 stays as it was, and the
-- closing body, which stands last, too, unless i + 1 is the last vertex. This holds for each such step, so for the first.
abbrev pub LaterKept : Type 0
LaterKept = (g : ℕ) (vs : List Vertex) (k i : ℕ) (v : Vertex) → k < i → suc (suc i) < length vs → settles (kind_of (get_or vs i none) (get_or vs (suc i) none)) ≡ true
    → drop (suc (suc i)) (bodies_of g (set vs k v)) ≡ drop (suc (suc i)) (bodies_of g vs)

-- how many thin steps follow one another from a on
unfoldable pub thin_from : Vertex → List Vertex → ℕ
thin_from a [] = 0
thin_from a (b ∷ bs) = elim (settles (kind_of a b)) [ true ↦ 0 | false ↦ suc (thin_from b bs) ]

unfoldable pub thin_run : List Vertex → ℕ
thin_run [] = 0
thin_run (a ∷ bs) = thin_from a bs

-- j: the first vertex at k + 2 or later reached by a drawn or broken step
unfoldable pub reach_of : List Vertex → ℕ → ℕ
reach_of vs k = k + 2 + thin_run (drop (k + 1) vs)

-- Document 01, "Three kinds of step": whether vertex i is reached by a step that is drawn or broken.
unfoldable pub settled_to : List Vertex → ℕ → Bool
settled_to vs i = settles (kind_of (get_or vs (i - 1) none) (get_or vs i none))

-- j is the first: no vertex from k + 2 on and before j is so reached, and j is, unless it is past the path.
abbrev pub ReachIsFirst : Type 0
ReachIsFirst = (vs : List Vertex) (k : ℕ)
    → (k + 2 ≤ reach_of vs k)
    × ((i : ℕ) → k + 2 ≤ i → i < reach_of vs k → settled_to vs i ≡ false)
    × (reach_of vs k < length vs → settled_to vs (reach_of vs k) ≡ true)

-- With another vertex at k, every body after j stays as it was, and the closing body too, unless j is the last vertex.
abbrev pub ReachKept : Type 0
ReachKept = (g : ℕ) (vs : List Vertex) (k : ℕ) (v : Vertex) → reach_of vs k + 1 < length vs
    → drop (reach_of vs k + 1) (bodies_of g (set vs k v)) ≡ drop (reach_of vs k + 1) (bodies_of g vs)
