-- What is kept at grade 2 or above takes another vertex: it passes the rows of a store, and those after them fail. Assumes nothing.
use mathlib.Core.Path.{◌≡◌, ◌∙◌}
use mathlib.Core.Bool.{true}
use mathlib.Core.List.{List, [], ◌∷◌, ◌++◌}
use Prim.Native.Nat.{ℕ, ◌<◌}
use borrow.Author.Tests.{lt-leb}
use lib.ListN.{length, set}
use Rattle.contacts.specs.Limits.{allowed_of}
use Rattle.contacts.specs.declared.Vertex.{Vertex}
use Rattle.paths.specs.Paths.{edges_of}
use Rattle.outline.specs.Outlines.{outline_bytes}
use Rattle.outline.proofs.ReadBack.{form_back, grade_back, posts_again, vertices_back}
use Rattle.outline.specs.declared.Form.TheVariants.{Stroke}
use Rattle.replies.specs.Replies.{Reply, Row, first_row, draw_grade_row, index_row, new_row}
use Rattle.replies.proofs.Rows.{first_skip, grade_drawn, empty_fails, room_enough}
use Rattle.keeping.specs.Keeping.{write_rows}
use Rattle.heading.specs.StoreRows.{store_rows}
use Rattle.checking.specs.OtherKind.{other_kind_row}
use Rattle.checking.proofs.OtherKinds.{kept_stroke}
use Rattle.checking.proofs.KeptStore.{store-none}
use Rattle.editing.specs.Replacing.{replaced_of, replace_reply, KeptIsReplaced}

change_none : (n k : ℕ) (v : Vertex) (rows : List Row) (last : Reply) → k < n → allowed_of v ≡ true → first_row (index_row n k ∷ new_row v k ∷ rows) last ≡ first_row rows last
unfolding first_row index_row new_row
change_none n k v rows last h a = rw (lt-leb n k h, first_row, a, first_row)

pub kept_is_replaced : KeptIsReplaced
unfolding replace_reply replaced_of write_rows
kept_is_replaced d g ps vs rest k v w low h a e l =
    let s = outline_bytes (Stroke d) g ps vs ++ rest in
    let us = set vs k v in
    let m = length (outline_bytes (Stroke d) g ps us) in
    first_skip (store_rows s) _ _ (store-none (Stroke d) g ps vs rest w)
    ∙ first_skip (other_kind_row s ∷ []) _ _ (kept_stroke d g ps vs rest w, tt)
    ∙ rw (form_back (Stroke d) g ps vs rest w, grade_back (Stroke d) g ps vs rest w, posts_again (Stroke d) g ps vs rest w, vertices_back (Stroke d) g ps vs rest w) (first_skip (draw_grade_row g ∷ []) _ _ (grade_drawn low w.0.high, tt) ∙ change_none (length vs) k v _ _ h a ∙ empty_fails (length us) (length (edges_of g us)) _ (0, m) e ∙ room_enough m (length s) m (0, m) l)
