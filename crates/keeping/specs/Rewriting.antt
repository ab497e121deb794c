-- What writing an outline over lent bytes promises.
use Rattle.std.specs.Prelude.{◌≡◌, List, ◌++◌, ℕ, ◌-◌, length, replicate, Result}
use Rattle.contacts.specs.declared.Vertex.{Vertex}
use Rattle.outline.specs.Outlines.{outline_bytes}
use Rattle.outline.specs.declared.Form.{Form}
use Rattle.replies.specs.Replies.{first_row, written}
use Rattle.keeping.specs.Keeping.{write_rows}
use Rattle.replies.specs.Refusals.{reply_of}
use Rattle.replies.specs.declared.Refusal.{Refusal}

-- the outline `new` over the bytes s₀ in which an old one ends at `old`: it ends at `end`, zeros follow up to the old end, and the rest stays
pub record Writes (s₀ new : List ℕ) (old end : ℕ) (s₁ : List ℕ) : Type 0 where
  pub long : end ≡ length new
  pub bytes : s₁ ≡ written (0, end) (new ++ replicate (old - length new) 0) s₀

-- the outline of a path and its posts, by its form and grade, once its rows are passed: the row of a path without edges and that of the room reply, and after 0 it is written
pub record Rewrites (s₀ : List ℕ) (f : Form) (g : ℕ) (ps : List ℕ) (vs : List Vertex) (old : ℕ) (answer : Result ℕ Refusal) (s₁ : List ℕ) : Type 0 where
  pub reply : reply_of answer ≡ first_row (write_rows f g ps vs (length s₀)) (0, length (outline_bytes f g ps vs))
  pub bytes : s₁ ≡ written (reply_of answer) (outline_bytes f g ps vs ++ replicate (old - length (outline_bytes f g ps vs)) 0) s₀
