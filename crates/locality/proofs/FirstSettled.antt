-- Why the reach is the first vertex that is reached by a drawn or broken step: a run of thin steps is thin up to its end, and there it ends. Assumes
-- nothing.
use mathlib.Core.Path.{◌≡◌, refl}
use mathlib.Core.Bool.{Bool, true, false}
use mathlib.Core.List.{List, [], ◌∷◌}
use Prim.Native.Nat.{ℕ, zero, suc, ◌+◌, ◌-◌, ◌<◌}
use native.Mathlib.Omega.{arith}
use lib.ListN.{length, get_or, drop, length-drop}
use lib.Seq.{get_or-drop}
use Rattle.contacts.specs.Contacts.{kind_of}
use Rattle.paths.specs.Paths.{none}
use Rattle.locality.specs.Local.{settles, thin_from, thin_run, reach_of, settled_to, ReachIsFirst}
use Rattle.contacts.specs.declared.Vertex.{Vertex}

-- whether the n-th step settles
settled_from : List Vertex → ℕ → Bool
settled_from l n = settles (kind_of (get_or l n none) (get_or l (suc n) none))

run_thin : (l : List Vertex) (n : ℕ) → n < thin_run l → settled_from l n ≡ false
unfolding thin_run thin_from settled_from
run_thin [] n h = absurd (omega arith)
run_thin (a ∷ []) n h = absurd (omega arith)
run_thin (a ∷ b ∷ bs) n h = go (settles (kind_of a b)) refl n h (run_thin (b ∷ bs))
  where
    go : (x : Bool) → settles (kind_of a b) ≡ x → (n : ℕ) → n < elim x [ true ↦ 0 | false ↦ suc (thin_from b bs) ]
        → ((m : ℕ) → m < thin_from b bs → settled_from (b ∷ bs) m ≡ false) → settled_from (a ∷ b ∷ bs) n ≡ false
    go true e n h r = absurd (omega arith)
    go false e zero h r = e
    go false e (suc n) h r = r n (omega arith)

run_ends : (l : List Vertex) → suc (thin_run l) < length l → settled_from l (thin_run l) ≡ true
unfolding thin_run thin_from settled_from
run_ends [] h = absurd (omega arith)
run_ends (a ∷ []) h = absurd (omega arith)
run_ends (a ∷ b ∷ bs) h = go (settles (kind_of a b)) refl h (run_ends (b ∷ bs))
  where
    here : Bool → ℕ
    here x = elim x [ true ↦ 0 | false ↦ suc (thin_from b bs) ]

    go : (x : Bool) → settles (kind_of a b) ≡ x → suc (here x) < suc (suc (length bs))
        → (suc (thin_from b bs) < suc (length bs) → settled_from (b ∷ bs) (thin_from b bs) ≡ true) → settled_from (a ∷ b ∷ bs) (here x) ≡ true
    go true e h r = e
    go false e h r = r (omega arith)

-- a step of the vertices from k + 1 on, as a step of the path
step_of : (vs : List Vertex) (k n i : ℕ) {x : Bool} → i ≡ k + 2 + n → settled_from (drop (k + 1) vs) n ≡ x → settled_to vs i ≡ x
unfolding settled_to settled_from
step_of vs k n i f e =
    let a : k + 1 + n ≡ i - 1 = omega arith in
    let b : k + 1 + suc n ≡ i = omega arith in
    rw (get_or-drop (k + 1) vs n none, get_or-drop (k + 1) vs (suc n) none, a, b) at e

pub reach_is_first : ReachIsFirst
unfolding reach_of
reach_is_first vs k =
    let l = drop (k + 1) vs in (
      omega arith,
      λ i h m. step_of vs k (i - (k + 2)) i (omega arith) (run_thin l (i - (k + 2)) (omega arith)),
      λ h. step_of vs k (thin_run l) (k + 2 + thin_run l) refl (run_ends l (omega (arith, length-drop (k + 1) vs))),
    )
