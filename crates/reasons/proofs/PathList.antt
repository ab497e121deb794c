-- A path's reasons as a whole: that no count wraps, and the room and the count after all of them. Assumes nothing.
use mathlib.Core.Path.{◌≡◌, refl, ap, ◌∙◌}
use mathlib.Core.List.{List, []}
use Prim.Native.Nat.{ℕ, ◌*◌, ◌-◌}
use native.Mathlib.Nat.{sub-zero}
use native.Mathlib.Omega.{arith}
use lib.ListN.{length, drop}
use Rattle.runs.specs.Runs.{spread, over, Runs, Room, put}
use Rattle.runs.proofs.Laws.{runs_none, runs_as}
use Rattle.plane.specs.Directions.{step_of}
use Rattle.plane.specs.declared.Vector.{Vector}
use Rattle.contacts.specs.declared.Vertex.{Vertex}
use Rattle.paths.specs.Paths.{Within}
use Rattle.reasons.specs.Reasons.{pieces_at, path_pieces, whys_from, whys_of}
use Rattle.reasons.specs.Lists.{why_numbers, put_past}
use Rattle.reasons.proofs.Listed.{past_over, whys_five}
use Rattle.reasons.proofs.OneEdge.{whys_few}
use Rattle.reasons.proofs.Whys.{whys_none}

pub list_room : (g : ℕ) (vs : List Vertex) {t : Vector} → Within g vs → t ≡ step_of g → Room why_numbers 0 (whys_from 0 (pieces_at t vs))
unfolding whys_of path_pieces
list_room g vs h e = rw e (record { fits = omega (arith, whys_few g vs h, whys_five (whys_of g vs)) })

-- from the number at `from` on, as many as the room holds
pub list_all : (g : ℕ) (vs : List Vertex) (from : ℕ) {t : Vector} {l₀ l₁ : List ℕ} {r : ℕ} → t ≡ step_of g → Runs (put_past from) why_numbers l₀ 0 (whys_from 0 (pieces_at t vs)) l₁ r
    → (l₁ ≡ over put l₀ 0 (drop from (spread why_numbers (whys_of g vs)))) × (r ≡ 5 * length (whys_of g vs))
unfolding whys_of path_pieces
list_all g vs from {t} {l₀} {l₁} {r} e p =
    let q : Runs (put_past from) why_numbers l₀ 0 (whys_from 0 (pieces_at (step_of g) vs)) l₁ r = rw e at p in
    let ns = spread why_numbers (whys_of g vs) in
    let f : 0 - from ≡ 0 = omega arith in (
      q.out ∙ past_over from l₀ 0 ns ∙ ap (λ (k : ℕ). over put l₀ k (drop (from - 0) ns)) f ∙ ap (λ (k : ℕ). over put l₀ 0 (drop k ns)) (sub-zero from),
      omega (arith, q.pos, whys_five (whys_of g vs)),
    )

pub list_none : (g : ℕ) (vs : List Vertex) (from : ℕ) {l : List ℕ} → length vs ≡ 0 → (l ≡ over put l 0 (drop from (spread why_numbers (whys_of g vs)))) × (0 ≡ 5 * length (whys_of g vs))
unfolding whys_of path_pieces
list_none g vs from {l} h =
    let e : whys_of g vs ≡ [] = whys_none (step_of g) vs h in
    let p : Runs (put_past from) why_numbers l 0 (whys_of g vs) l 0 = runs_as e runs_none in
    list_all g vs from refl p
