-- Of what is kept no row holds; and where none held the number with reply 0 is the path's own, the reach where that lies in the path. Assumes nothing.
use mathlib.Core.Path.{◌≡◌, refl, sym, ap, ◌∙◌}
use mathlib.Core.Bool.{Bool, true, false}
use mathlib.Core.List.{List, [], ◌∷◌, ◌++◌}
use Prim.Native.Nat.{ℕ, ◌≤◌, ◌<◌}
use native.Mathlib.Omega.{arith}
use borrow.Author.Tests.{ltb-true, ltb-false, lt-leb}
use lib.Dec.{ltb}
use lib.ListN.{length}
use Rattle.locality.specs.Local.{reach_of}
use Rattle.contacts.specs.declared.Vertex.{Vertex}
use Rattle.outline.specs.Outlines.{outline_bytes}
use Rattle.outline.specs.Stores.{path_in}
use Rattle.outline.proofs.ReadBack.{vertices_back}
use Rattle.outline.specs.declared.Form.TheVariants.{Stroke}
use Rattle.replies.specs.Replies.{Reply, Row, first_row, grade_row, count_row, outside_row, index_row}
use Rattle.heading.specs.StoreRows.{edition_row, kind_row, unfit_row, style_row_in, length_row, sound_row, store_rows}
use Rattle.replies.specs.StyleRows.{style_row}
use Rattle.checking.specs.OtherKind.{other_kind_row}
use Rattle.checking.proofs.OtherKinds.{kept_stroke}
use Rattle.checking.proofs.KeptStore.{store-none}
use Rattle.replies.proofs.Rows.{first_skip, none_last, first-none}
use Rattle.reaching.specs.Replies.{reached_of, reach_reply}
use Rattle.reaching.specs.Theorems.{KeptIsReached, NumberIsFirst}
use Rattle.locality.proofs.FirstSettled.{reach_is_first}

pub kept_is_reached : KeptIsReached
unfolding reach_reply index_row first_row
kept_is_reached d g ps vs rest k w h =
    first_skip (store_rows (outline_bytes (Stroke d) g ps vs ++ rest)) _ _ (store-none (Stroke d) g ps vs rest w)
    ∙ first_skip (other_kind_row (outline_bytes (Stroke d) g ps vs ++ rest) ∷ []) (index_row (length (path_in (outline_bytes (Stroke d) g ps vs ++ rest))) k ∷ []) (0, reached_of (path_in (outline_bytes (Stroke d) g ps vs ++ rest)) k) (kept_stroke d g ps vs rest w, tt)
    ∙ rw (vertices_back (Stroke d) g ps vs rest w, lt-leb (length vs) k h, first_row, vertices_back (Stroke d) g ps vs rest w)

pub number_is : (s : List ℕ) (k j : ℕ) → reach_reply s k ≡ (0, j) → j ≡ reached_of (path_in s) k
unfolding reach_reply store_rows edition_row kind_row unfit_row grade_row style_row_in style_row count_row length_row outside_row sound_row other_kind_row index_row first_row
number_is s k j e =
    let rows : List Row = store_rows s ++ (other_kind_row s ∷ index_row (length (path_in s)) k ∷ []) in
    let last : Reply = (0, reached_of (path_in s) k) in
    let none = first-none rows last (refl, (refl, (refl, (refl, (refl, (refl, (refl, (refl, (refl, (refl, (refl, tt))))))))))) (ap (λ (r : Reply). r.0) e) in
    ap (λ (r : Reply). r.1) (sym e ∙ none_last rows last none)

-- which is the lesser of the reach and the number of vertices
pub lesser : (vs : List Vertex) (k : ℕ) → (reached_of vs k ≤ length vs) × (reached_of vs k ≤ reach_of vs k) × (reached_of vs k < length vs → reached_of vs k ≡ reach_of vs k)
unfolding reached_of
lesser vs k = go (ltb (reach_of vs k) (length vs)) refl
  where
    of : Bool → ℕ
    of x = elim x [ true ↦ reach_of vs k | false ↦ length vs ]

    go : (x : Bool) → ltb (reach_of vs k) (length vs) ≡ x → (of x ≤ length vs) × (of x ≤ reach_of vs k) × (of x < length vs → of x ≡ reach_of vs k)
    go true t = (omega (arith, ltb-true (reach_of vs k) (length vs) t), omega arith, λ l. refl)
    go false t = (omega arith, ltb-false (reach_of vs k) (length vs) t, λ l. absurd (omega arith))

pub number_is_first : NumberIsFirst
number_is_first s k j e =
    let f = number_is s k j e in
    let g = lesser (path_in s) k in
    let r = reach_is_first (path_in s) k in (
      omega arith,
      λ i l m. r.1 i l (omega arith),
      λ l. let h : j ≡ reach_of (path_in s) k = f ∙ g.2 (omega arith) in (omega (arith, r.0), rw h (r.2 (omega arith))),
    )
