-- Document 01, "Replies, tested in this order", and document 02, requests 3 and 11: read, its answer and its promise.
use Rattle.std.specs.Prelude.{◌≡◌, true, false, List, [], ◌∷◌, ◌++◌, ℕ, ◌*◌, ◌≤◌, eqb, ℤ, length, drop, Result, Ok, Err}
use Rattle.runs.specs.Runs.{spread}
use Rattle.contacts.specs.declared.Vertex.{Vertex}
use Rattle.outline.specs.Outlines.{outline_bytes}
use Rattle.outline.specs.Stores.{form_in, grade_in, path_in}
use Rattle.outline.specs.Theorems.{FormWithin, Formed}
use Rattle.outline.specs.declared.Edition.TheVariants.{First}
use Rattle.outline.specs.declared.Form.{Form}
use Rattle.outline.specs.declared.Form.TheVariants.{Stroke}
use Rattle.replies.specs.Replies.{Reply, first_row, room_row, written}
use Rattle.replies.specs.Refusals.{refusal_of}
use Rattle.replies.specs.declared.Refusal.{Refusal}
use Rattle.heading.specs.Shows.{lent_numbers, lent_width}
use Rattle.heading.specs.StoreRows.{store_rows}
use Rattle.reading.specs.declared.Read.{Read}

-- ---- read the path of a sound outline into lent numbers, three a vertex, of a kerb two; its grade and form beside the reply (0 and a stroke of
-- edition 1 when refused)

unfoldable pub read_reply : List ℕ → ℕ → Reply
read_reply s room =
    let n = length (path_in s) in
    first_row (store_rows s ++ (room_row (lent_width (form_in s) * n) room n ∷ [])) (0, n)

unfoldable pub read_grade : List ℕ → ℕ → ℕ
read_grade s room = elim (eqb (read_reply s room).0 0) [ true ↦ grade_in s | false ↦ 0 ]

unfoldable pub read_form : List ℕ → ℕ → Form
read_form s room = elim (eqb (read_reply s room).0 0) [ true ↦ form_in s | false ↦ Stroke First ]

unfoldable pub read_out : List ℕ → List ℤ → List ℤ
read_out s room = written (read_reply s (length room)) (spread (lent_numbers (form_in s)) (path_in s)) room

unfoldable pub reply_of_read : Result Read Refusal → Reply
reply_of_read (Ok read) = (0, read.vertices)
reply_of_read (Err r) = refusal_of r

-- the grade and the form beside the reply
unfoldable pub grade_of_read : Result Read Refusal → ℕ
grade_of_read (Ok read) = read.grade
grade_of_read (Err r) = 0

unfoldable pub form_of_read : Result Read Refusal → Form
form_of_read (Ok read) = read.form
form_of_read (Err r) = Stroke First

pub record Reads (store : List ℕ) (out₀ : List ℤ) (answer : Result Read Refusal) (out₁ : List ℤ) : Type 0 where
  pub reply : reply_of_read answer ≡ read_reply store (length out₀)
  pub grade : grade_of_read answer ≡ read_grade store (length out₀)
  pub form : form_of_read answer ≡ read_form store (length out₀)
  pub within : FormWithin (form_of_read answer)
  pub out : out₁ ≡ read_out store out₀

-- Reading it into enough room gives the path, the grade and the form.
abbrev pub KeptIsRead : Type 0
KeptIsRead = (f : Form) (g : ℕ) (ps : List ℕ) (vs : List Vertex) (rest : List ℕ) (room : List ℤ) → Formed f g ps vs → lent_width f * length vs ≤ length room
    → (read_reply (outline_bytes f g ps vs ++ rest) (length room) ≡ (0, length vs))
    × (read_grade (outline_bytes f g ps vs ++ rest) (length room) ≡ g)
    × (read_form (outline_bytes f g ps vs ++ rest) (length room) ≡ f)
    × (read_out (outline_bytes f g ps vs ++ rest) room ≡ spread (lent_numbers f) vs ++ drop (length (spread (lent_numbers f) vs)) room)

abbrev pub OneReading : Type 0
OneReading = (s : List ℕ) (out : List ℤ) (r q : Result Read Refusal) (o p : List ℤ) → Reads s out r o → Reads s out q p → (r ≡ q) × (o ≡ p)
