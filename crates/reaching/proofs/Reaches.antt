-- How far a change reaches, step by step from a vertex on. Assumes nothing.
use Rattle.std.specs.Prelude.{Option, Some, None, MatchOption}
use Rattle.std.specs.Option.{unwrap_or}
use mathlib.Core.Path.{◌≡◌, refl}
use mathlib.Core.Logic.{◌⊎◌, inl, inr}
use mathlib.Core.Bool.{Bool, true, false}
use mathlib.Core.List.{List}
use Prim.Native.Nat.{ℕ, suc, ◌+◌, ◌≤◌, ◌<◌}
use native.Mathlib.Omega.{arith}
use native.Mathlib.Numerals.{add-one}
use borrow.Author.Tests.{lt-ltb, le-ltb}
use lib.Dec.{ltb}
use lib.ListN.{length, get_or, drop}
use lib.Seq.{drop-cons}
use Rattle.contacts.specs.Contacts.{kind_of}
use Rattle.contacts.specs.Limits.{first_outside}
use Rattle.contacts.specs.Bounds.{Inside}
use Rattle.paths.specs.Paths.{none}
use Rattle.locality.specs.Local.{settles, thin_from, thin_run, reach_of}
use Rattle.contacts.specs.declared.Vertex.{Vertex}
use Rattle.contacts.specs.declared.Kind.{Kind}
use Rattle.contacts.specs.declared.Kind.TheVariants.{Broken, Drawn}
use Rattle.contacts.proofs.Allowed.{inside_of_lem}
use Rattle.paths.proofs.PathWalk.{allowed_at}
use Rattle.reaching.specs.Replies.{reached_of}

-- each vertex of a path within the limits is within them
pub inside_at : (vs : List Vertex) (k : ℕ) {v : Vertex} → first_outside vs ≡ length vs → k < length vs → v ≡ get_or vs k none → Inside v
inside_at vs k o h e = rw e (inside_of_lem (allowed_at vs k o h))

module _ (vs : List Vertex) (i : ℕ) where
  -- a drawn or broken step ends the run of thin ones
  pub thin_none : i + 1 < length vs → settles (kind_of (get_or vs i none) (get_or vs (i + 1) none)) ≡ true → thin_run (drop i vs) ≡ 0
  unfolding thin_run thin_from
  thin_none h t =
      let u : settles (kind_of (get_or vs i none) (get_or vs (suc i) none)) ≡ true = rw add-one at t in
      rw (drop-cons vs i none (omega arith), drop-cons vs (suc i) none (omega arith), thin_run, thin_from, u)

  -- a thin one makes it longer
  pub thin_more : i + 1 < length vs → settles (kind_of (get_or vs i none) (get_or vs (i + 1) none)) ≡ false → thin_run (drop i vs) ≡ suc (thin_run (drop (i + 1) vs))
  unfolding thin_run thin_from
  thin_more h t =
      let u : settles (kind_of (get_or vs i none) (get_or vs (suc i) none)) ≡ false = rw add-one at t in
      rw (add-one, drop-cons vs i none (omega arith), drop-cons vs (suc i) none (omega arith), thin_run, thin_from, u)

-- the reach, from the vertex after the changed one on
pub reach_start : (vs : List Vertex) (k : ℕ) → reach_of vs k ≡ k + 1 + 1 + thin_run (drop (k + 1) vs)
unfolding reach_of
reach_start vs k = omega arith

-- whether a step settles, by the vertices and the kind that the code has
pub settles_of : {r : Bool} {k : Kind} {a b u v : Vertex} → r ≡ settles k → k ≡ kind_of a b → a ≡ u → b ≡ v → r ≡ settles (kind_of u v)
settles_of e f g h = rw (e, f, g, h)

-- a kind that does
pub settles_some : {k : Kind} → (k ≡ Broken) ⊎ (k ≡ Drawn) → true ≡ settles k
unfolding settles
settles_some (inl e) = rw e refl
settles_some (inr e) = rw e refl

-- ---- the number that is told: n is what the code has for the number of vertices

pub told : (vs : List Vertex) (k : ℕ) (r : Option ℕ) {n : ℕ} → n ≡ length vs → MatchOption r (length vs ≤ reach_of vs k) (λ j. (j ≡ reach_of vs k) × (j < length vs)) → unwrap_or r n ≡ reached_of vs k
unfolding reached_of
told vs k None e h = let t : ltb (reach_of vs k) (length vs) ≡ false = le-ltb (reach_of vs k) (length vs) h in rw (t, reached_of) e
told vs k (Some j) e h = let t : ltb (reach_of vs k) (length vs) ≡ true = lt-ltb (reach_of vs k) (length vs) (rw h.0 at h.1) in rw (t, reached_of) h.0
