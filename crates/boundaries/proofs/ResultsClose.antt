-- What draw wrote and what a sound store holds, read as edges, is the path's edges: so it closes where they do. Assumes nothing.
use mathlib.Core.Path.{◌≡◌, refl, sym, ap, ◌∙◌}
use mathlib.Core.Bool.{false}
use mathlib.Core.List.{List, [], ◌∷◌, ◌++◌, append_assoc}
use Prim.Native.Nat.{ℕ, ◌-◌, ◌*◌}
use native.Mathlib.Nat.{le_antisymm}
use native.Mathlib.Omega.{arith}
use borrow.Author.Tests.{ltb-false}
use lib.IntN.{ℤ}
use lib.ListN.{length, take, drop, length-append}
use lib.Seq.{take_at, drop_at}
use Rattle.runs.specs.Runs.{spread}
use Rattle.runs.proofs.Laws.{spread-append}
use Rattle.turning.specs.Edges.{edge_numbers}
use Rattle.turning.specs.Bounds.{AllReach}
use Rattle.turning.specs.declared.Edge.{Edge}
use Rattle.turning.proofs.Most.{edges_four}
use Rattle.contacts.specs.Limits.{first_outside}
use Rattle.contacts.specs.declared.Vertex.{Vertex}
use Rattle.contacts.proofs.Allowed.{outside_most, inside_first, inside_of_lem}
use Rattle.kerb.specs.Bounds.{KerbPoints}
use Rattle.kerb.specs.declared.Style.{Style}
use Rattle.kerb.proofs.KerbReach.{kerb_reach}
use Rattle.paths.specs.Paths.{path_of, edges_of, Within}
use Rattle.paths.proofs.Reach.{edges_reach}
use Rattle.outline.specs.Layout.{edge_bytes}
use Rattle.outline.specs.Outlines.{header_of, body_words, table_for, edges_for, parts_words, outline_words, outline_bytes}
use Rattle.outline.specs.Theorems.{AllRadius, Formed}
use Rattle.outline.specs.declared.Edition.TheVariants.{Second}
use Rattle.outline.specs.declared.Form.{Form}
use Rattle.outline.specs.declared.Form.TheVariants.{Stroke, Kerb}
use Rattle.outline.specs.Stores.{form_in, grade_in, length_in, path_in, posts_in}
use Rattle.outline.proofs.ReadBack.{numbers_length, length_back, header_word}
use Rattle.replies.specs.Replies.{Reply, triples_row, draw_grade_row, count_row, outside_row, empty_row, room_row, path_rows, written}
use Rattle.replies.proofs.Rows.{NoneHold, first-none, none_last}
use Rattle.drawing.specs.Drawing.{draw_reply, draw_out}
use Rattle.keeping.proofs.PathKept.{keep_within, keep_out_lem}
use Rattle.outline.proofs.BodiesInBytes.{sound_begins}
use Rattle.closing.specs.Closing.{Balanced, stray_of}
use Rattle.closing.proofs.PathsClose.{boundary_closes}
use Rattle.closing.proofs.KerbsClose.{kerb_closes}
use Rattle.words.specs.Words.{four_bytes, bytes_of, words_in, word_at}
use Rattle.words.proofs.Bytes.{bytes-length}
use Rattle.boundaries.specs.Results.{edges_from, numbers_of, stored_edges, stray_in, DrawnCloses, StoredCloses, SoundCloses, KeptCloses}
use Rattle.boundaries.proofs.EdgesAgain.{edges_again, bytes_again}

-- ---- draw

module _ (path : List ℤ) (g room : ℕ) (h : (draw_reply path g room).0 ≡ 0) where
  abbrev edges : List Edge
  edges = edges_of g (path_of path)

  draw_none : NoneHold (path_rows path g ++ (empty_row (length (path_of path)) (length edges) ∷ room_row (4 * length edges) room (length edges) ∷ []))
  unfolding draw_reply path_rows triples_row draw_grade_row count_row outside_row empty_row room_row
  draw_none = first-none _ _ (refl, (refl, (refl, (refl, (refl, (refl, tt)))))) h

  draw_inside : first_outside (path_of path) ≡ length (path_of path)
  unfolding path_rows outside_row
  draw_inside = le_antisymm (outside_most (path_of path)) (ltb-false _ _ draw_none.1.1.1.0)

  draw_number : (draw_reply path g room).1 ≡ length edges
  unfolding draw_reply
  draw_number = ap (λ (r : Reply). r.1) (none_last _ _ draw_none)

drawn_edges : (path : List ℤ) (g m : ℕ) (out : List ℤ) → draw_reply path g (length out) ≡ (0, m) → edges_from (take (4 * m) (draw_out path g out)) ≡ edges_of g (path_of path)
unfolding draw_out written
drawn_edges path g m out e =
    let h : (draw_reply path g (length out)).0 ≡ 0 = ap (λ (r : Reply). r.0) e in
    let es = edges_of g (path_of path) in
    let n : length es ≡ m = sym (draw_number path g (length out) h) ∙ ap (λ (r : Reply). r.1) e in
    let o : draw_out path g out ≡ spread edge_numbers es ++ drop (length (spread edge_numbers es)) out = rw (h, written) in
    ap edges_from (ap (take (4 * m)) o ∙ take_at (spread edge_numbers es) _ (4 * m) (omega (arith, edges_four es, n))) ∙ edges_again es

pub drawn_closes : DrawnCloses
drawn_closes path g m out e s =
    let h : (draw_reply path g (length out)).0 ≡ 0 = ap (λ (r : Reply). r.0) e in
    let n : length (edges_of g (path_of path)) ≡ m = sym (draw_number path g (length out) h) ∙ ap (λ (r : Reply). r.1) e in
    rw (drawn_edges path g m out e) (n, boundary_closes g (path_of path) (draw_inside path g (length out) h) s)

-- ---- stores

-- the points of a kerb within the limits
kerb_points : (y : Style) (vs : List Vertex) → first_outside vs ≡ length vs → AllRadius y.radius vs → KerbPoints y vs
unfolding KerbPoints
kerb_points y [] h r = tt
kerb_points y (v ∷ vs) h r = let a = inside_first v vs h in (record { inside = inside_of_lem a.0; radius = r.0 }, kerb_points y vs a.1 r.1)

-- what either kind has: its edges can be read back, and close
form_reach : (f : Form) (g : ℕ) (ps : List ℕ) (vs : List Vertex) → Formed f g ps vs → AllReach (edges_for f g vs)
form_reach (Stroke e) g ps vs w = edges_reach g vs w.0.inside
form_reach (Kerb y) g ps vs w = kerb_reach g y vs w.1.0 (kerb_points y vs w.0.inside w.1.1)

form_closes : (f : Form) (g : ℕ) (ps : List ℕ) (vs : List Vertex) → Formed f g ps vs → stray_in f vs ≡ false → Balanced (edges_for f g vs)
unfolding stray_in
form_closes (Stroke d) g ps vs w e = boundary_closes g vs w.0.inside e
form_closes (Kerb y) g ps vs w e = kerb_closes g y vs

-- a store that begins with an outline: before its edges stand header and table
module _ (f : Form) (g : ℕ) (ps : List ℕ) (vs : List Vertex) (rest : List ℕ) (w : Formed f g ps vs) where
  abbrev store : List ℕ
  store = outline_bytes f g ps vs ++ rest

  abbrev due : List Edge
  due = edges_for f g vs

  front : List ℕ
  front = header_of f g (length vs) (length due) ++ table_for f g ps vs

  abbrev body : List ℕ
  body = bytes_of (body_words due)

  bytes_split : outline_bytes f g ps vs ≡ bytes_of front ++ body
  unfolding front outline_bytes outline_words parts_words bytes_of
  bytes_split =
      ap (spread four_bytes) (sym (append_assoc (header_of f g (length vs) (length due)) (table_for f g ps vs) (body_words due)))
      ∙ spread-append four_bytes front (body_words due)

  edge_count : word_at store 4 ≡ length due
  unfolding outline_words parts_words header_of
  edge_count = header_word f g ps vs rest w 4

  body_long : length body ≡ edge_bytes * word_at store 4
  body_long = omega (arith, bytes-length (body_words due), numbers_length due, edge_count)

  front_long : length (bytes_of front) ≡ length_in store - edge_bytes * word_at store 4
  front_long = omega (arith, body_long, length_back f g ps vs rest w, ap length bytes_split, length-append (bytes_of front) body)

  edges-stored : stored_edges store ≡ due
  unfolding stored_edges
  edges-stored =
      let split : store ≡ bytes_of front ++ (body ++ rest) = ap (λ (l : List ℕ). l ++ rest) bytes_split ∙ append_assoc (bytes_of front) body rest in
      let n : ℕ = edge_bytes * word_at store 4 in
      ap (λ (l : List ℕ). edges_from (numbers_of (words_in (take n l)))) (ap (drop (length_in store - n)) split ∙ drop_at (bytes_of front) (body ++ rest) _ front_long)
      ∙ ap (λ (l : List ℕ). edges_from (numbers_of (words_in l))) (take_at body rest n body_long)
      ∙ bytes_again due (form_reach f g ps vs w)

  stored_closes : stray_in f vs ≡ false → StoredCloses store
  stored_closes e = rw (edges-stored, edge_count) (refl, form_closes f g ps vs w e)

pub sound_closes : SoundCloses
sound_closes s w e f = rw (sound_begins s e) (stored_closes (form_in s) (grade_in s) (posts_in s) (path_in s) (drop (length_in s) s) w f)

pub kept_closes : KeptCloses
unfolding stray_in
kept_closes path ps g out u h f =
    rw (keep_out_lem path ps g out h) (stored_closes (Stroke Second) g ps (path_of path) (drop (length (outline_bytes (Stroke Second) g ps (path_of path))) out) (keep_within path ps g (length out) h, u) f)
