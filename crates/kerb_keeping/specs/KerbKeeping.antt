-- Document 02, request 3: keep of a kerb, its rows, its answer's reply and its promise. Grade 1 is retired by request 13.
use Rattle.std.specs.Prelude.{◌≡◌, List, [], ◌++◌, ℕ, ◌%◌, ◌≤◌, ◌<◌, ℤ, pos, length, Result}
use Rattle.paths.specs.Paths.{Within}
use Rattle.kerb.specs.Styles.{style_of}
use Rattle.kerb_paths.specs.Points.{kerb_path}
use Rattle.outline.specs.Outlines.{edges_for, outline_bytes}
use Rattle.outline.specs.declared.Form.{Form}
use Rattle.outline.specs.declared.Form.TheVariants.{Kerb}
use Rattle.replies.specs.Replies.{Reply, first_row, written}
use Rattle.replies.specs.StyleRows.{style_fault}
use Rattle.kerb_rows.specs.KerbRows.{kerb_rows}
use Rattle.replies.specs.Refusals.{reply_of}
use Rattle.replies.specs.declared.Refusal.{Refusal}
use Rattle.keeping.specs.Keeping.{write_rows}

-- l is the points lent, g the grade; r, j and c are the radius, join and closed beside them
abbrev pub kerb_form : ℕ → ℕ → ℕ → Form
kerb_form r j c = Kerb (style_of r j c)

unfoldable pub kerb_bytes : List ℤ → ℕ → ℕ → ℕ → ℕ → List ℕ
kerb_bytes l g r j c = outline_bytes (kerb_form r j c) g [] (kerb_path (pos r) l)

-- 1, 3, 11, 2, 4, then 18 and 5.
unfoldable pub keep_kerb_reply : List ℤ → ℕ → ℕ → ℕ → ℕ → ℕ → Reply
keep_kerb_reply l g r j c room = first_row (kerb_rows l g r j c ++ write_rows (kerb_form r j c) g [] (kerb_path (pos r) l) room) (0, length (kerb_bytes l g r j c))

unfoldable pub keep_kerb_out : List ℤ → ℕ → ℕ → ℕ → ℕ → List ℕ → List ℕ
keep_kerb_out l g r j c room = written (keep_kerb_reply l g r j c (length room)) (kerb_bytes l g r j c) room

-- the promise: reply, number and every lent byte afterwards
pub record KeepsKerb (l : List ℤ) (g r j c : ℕ) (out₀ : List ℕ) (answer : Result ℕ Refusal) (out₁ : List ℕ) : Type 0 where
  pub reply : reply_of answer ≡ keep_kerb_reply l g r j c (length out₀)
  pub out : out₁ ≡ keep_kerb_out l g r j c out₀

-- Pairs, a grade from 2 on, a style and points within the limits, an edge where there are points, and room enough are kept.
abbrev pub KerbIsKept : Type 0
KerbIsKept = (l : List ℤ) (g r j c room : ℕ) → length l % 2 ≡ 0 → 2 ≤ g → style_fault r j c ≡ 0 → Within g (kerb_path (pos r) l)
    → (0 < length (kerb_path (pos r) l) → 0 < length (edges_for (kerb_form r j c) g (kerb_path (pos r) l))) → length (kerb_bytes l g r j c) ≤ room
    → keep_kerb_reply l g r j c room ≡ (0, length (kerb_bytes l g r j c))

abbrev pub OneKerbKeeping : Type 0
OneKerbKeeping = (l : List ℤ) (g r j c : ℕ) (out : List ℕ) (a b : Result ℕ Refusal) (o p : List ℕ) → KeepsKerb l g r j c out a o → KeepsKerb l g r j c out b p → (a ≡ b) × (o ≡ p)
