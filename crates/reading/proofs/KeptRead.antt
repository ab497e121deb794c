-- What is kept is read back: every row before the last fails. Assumes nothing.
use mathlib.Core.Path.{◌≡◌, ◌∙◌}
use mathlib.Core.List.{List, ◌++◌}
use Prim.Native.Nat.{ℕ, ◌*◌, ◌≤◌}
use lib.ListN.{length}
use Rattle.contacts.specs.declared.Vertex.{Vertex}
use Rattle.outline.specs.Outlines.{outline_bytes}
use Rattle.outline.specs.Theorems.{Formed}
use Rattle.outline.specs.declared.Form.{Form}
use Rattle.outline.proofs.ReadBack.{form_back, grade_back, vertices_back}
use Rattle.replies.specs.Replies.{written}
use Rattle.replies.proofs.Rows.{first_skip, room_enough}
use Rattle.heading.specs.Shows.{lent_width}
use Rattle.heading.specs.StoreRows.{store_rows}
use Rattle.checking.proofs.KeptStore.{store-none}
use Rattle.reading.specs.Reading.{read_reply, read_grade, read_form, read_out, KeptIsRead}

read_reply_lem : (f : Form) (g : ℕ) (ps : List ℕ) (vs : List Vertex) (rest : List ℕ) (room : ℕ) → Formed f g ps vs → lent_width f * length vs ≤ room → read_reply (outline_bytes f g ps vs ++ rest) room ≡ (0, length vs)
unfolding read_reply
read_reply_lem f g ps vs rest room h k =
    first_skip (store_rows (outline_bytes f g ps vs ++ rest)) _ _ (store-none f g ps vs rest h)
    ∙ rw (form_back f g ps vs rest h, vertices_back f g ps vs rest h) (room_enough (lent_width f * length vs) room (length vs) (0, length vs) k)

pub kept_is_read : KeptIsRead
unfolding read_grade read_form read_out written
kept_is_read f g ps vs rest room h k =
    let e = read_reply_lem f g ps vs rest (length room) h k in
    (e, rw (e, read_grade) (grade_back f g ps vs rest h), rw (e, read_form) (form_back f g ps vs rest h), rw (e, written, form_back f g ps vs rest h, vertices_back f g ps vs rest h))
