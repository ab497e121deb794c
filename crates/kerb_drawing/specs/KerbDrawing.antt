-- Document 02, request 3: drawing a kerb, the replies tested in this order, and its promise. Grade 1 is retired by request 13.
use Rattle.std.specs.Prelude.{◌≡◌, List, [], ◌∷◌, ◌++◌, ℕ, ◌*◌, ◌%◌, ◌≤◌, ◌<◌, ℤ, pos, length, Result}
use Rattle.runs.specs.Runs.{spread}
use Rattle.turning.specs.Edges.{edge_numbers}
use Rattle.kerb_paths.specs.Points.{kerb_path}
use Rattle.paths.specs.Paths.{Within}
use Rattle.replies.specs.Replies.{Reply, first_row, empty_row, room_row, written}
use Rattle.replies.specs.StyleRows.{style_fault}
use Rattle.kerb_rows.specs.KerbRows.{kerb_rows, kerb_due}
use Rattle.replies.specs.Refusals.{reply_of}
use Rattle.replies.specs.declared.Refusal.{Refusal}

-- ---- draw a kerb's edges into lent numbers, four an edge

unfoldable pub draw_kerb_reply : List ℤ → ℕ → ℕ → ℕ → ℕ → ℕ → Reply
draw_kerb_reply l g r j c room =
    let m = length (kerb_due l g r j c) in
    first_row (kerb_rows l g r j c ++ (empty_row (length (kerb_path (pos r) l)) m ∷ room_row (4 * m) room m ∷ [])) (0, m)

unfoldable pub draw_kerb_out : List ℤ → ℕ → ℕ → ℕ → ℕ → List ℤ → List ℤ
draw_kerb_out l g r j c room = written (draw_kerb_reply l g r j c (length room)) (spread edge_numbers (kerb_due l g r j c)) room

-- ---- the promise: reply, number and every lent number afterwards

pub record DrawsKerb (l : List ℤ) (g r j c : ℕ) (out₀ : List ℤ) (answer : Result ℕ Refusal) (out₁ : List ℤ) : Type 0 where
  pub reply : reply_of answer ≡ draw_kerb_reply l g r j c (length out₀)
  pub out : out₁ ≡ draw_kerb_out l g r j c out₀

-- Numbers lent as pairs, a grade from 2 on, a style, points within the limits that have edges, or none, and room enough are drawn.
abbrev pub KerbIsDrawn : Type 0
KerbIsDrawn = (l : List ℤ) (g r j c room : ℕ) → length l % 2 ≡ 0 → 2 ≤ g → style_fault r j c ≡ 0 → Within g (kerb_path (pos r) l)
    → (0 < length (kerb_path (pos r) l) → 0 < length (kerb_due l g r j c)) → 4 * length (kerb_due l g r j c) ≤ room → draw_kerb_reply l g r j c room ≡ (0, length (kerb_due l g r j c))

-- The call has one outcome: two that its promise allows coincide.
abbrev pub OneKerbDrawing : Type 0
OneKerbDrawing = (l : List ℤ) (g r j c : ℕ) (out : List ℤ) (a b : Result ℕ Refusal) (o p : List ℤ) → DrawsKerb l g r j c out a o → DrawsKerb l g r j c out b p → (a ≡ b) × (o ≡ p)
