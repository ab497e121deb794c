-- An outline and its entry zeroed. Assumes nothing.
use mathlib.Core.Path.{◌≡◌, ap, ◌∙◌}
use mathlib.Core.List.{List}
use Prim.Native.Nat.{ℕ, ◌+◌, ◌*◌}
use lib.ListN.{replicate}
use Rattle.runs.specs.Runs.{over, put}
use Rattle.chunk_table.specs.Tables.{offset_in, size_in}
use Rattle.chunks.specs.Chunks.{without}

pub wiped : (c : List ℕ) (i : ℕ) {o z : ℕ} {c₁ c₂ : List ℕ} → o ≡ offset_in c i → z ≡ size_in c i → c₁ ≡ over put c o (replicate z 0) → c₂ ≡ over put c₁ (4 + 12 * i) (replicate 12 0) → c₂ ≡ without c i
unfolding without
wiped c i eo ez e f = f ∙ ap (λ s. over put s (4 + 12 * i) (replicate 12 0)) (e ∙ rw (eo, ez))
