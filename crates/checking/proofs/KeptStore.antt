-- What is kept passes the rows of a store, whatever bytes stand after it: it says its own form, grade and path. Assumes nothing.
use mathlib.Core.Path.{◌≡◌, refl}
use mathlib.Core.Bool.{Bool, true, false, ◌&&◌, ◌||◌}
use mathlib.Core.List.{List, ◌++◌}
use Prim.Native.Nat.{ℕ, ◌≤◌}
use native.Mathlib.Omega.{arith}
use lib.Dec.{eqb, ltb}
use lib.IntN.{ℤ, pos, negsuc}
use lib.ListN.{length, length-append}
use borrow.Author.Tests.{le-ltb}
use Rattle.turning.specs.Bounds.{Radius}
use Rattle.contacts.specs.Limits.{first_outside}
use Rattle.contacts.specs.declared.Vertex.{Vertex}
use Rattle.kerb.specs.declared.Join.{Join}
use Rattle.kerb.specs.declared.Join.TheVariants.{Bevel, Round}
use Rattle.words.specs.Words.{word_of, word_at}
use Rattle.outline.specs.Layout.{first_edition, second_edition, edition_number, edition_word, kind_word, kerb_kind}
use Rattle.outline.specs.Outlines.{join_word, closed_word, style_words, header_of, parts_words, outline_words, outline_bytes}
use Rattle.outline.specs.Stores.{edition_in, kind_in, count_in}
use Rattle.outline.specs.Theorems.{Formed}
use Rattle.outline.specs.declared.Edition.TheVariants.{First, Second}
use Rattle.outline.specs.declared.Form.{Form}
use Rattle.outline.specs.declared.Form.TheVariants.{Stroke, Kerb}
use Rattle.outline.proofs.ReadBack.{outline_length, grade_back, vertices_back, length_back, sound_back, header_word}
use Rattle.replies.specs.Replies.{grade_row, count_row, outside_row}
use Rattle.replies.specs.StyleRows.{style_fault, style_row}
use Rattle.replies.proofs.Rows.{NoneHold}
use Rattle.replies.proofs.StyleFaults.{no_fault}
use Rattle.heading.specs.StoreRows.{edition_row, kind_row, least_of, misplaced_of, unfit_row, style_row_in, length_row, sound_row, store_rows}

-- ---- by the form

kind_known : (f : Form) → ltb kerb_kind (kind_word f) ≡ false
kind_known (Stroke e) = refl
kind_known (Kerb y) = refl

least_long : (f : Form) (g : ℕ) (ps : List ℕ) (vs : List Vertex) → least_of (kind_word f) ≤ length (outline_bytes f g ps vs)
unfolding least_of
least_long (Stroke e) g ps vs = omega (arith, outline_length (Stroke e) g ps vs)
least_long (Kerb y) g ps vs = omega (arith, outline_length (Kerb y) g ps vs)

edition_known : (f : Form) → (ltb (edition_word f) first_edition || ltb second_edition (edition_word f)) ≡ false
unfolding edition_number
edition_known (Stroke First) = refl
edition_known (Stroke Second) = refl
edition_known (Kerb y) = refl

edition_placed : (f : Form) → misplaced_of (kind_word f) (edition_word f) ≡ false
unfolding misplaced_of
edition_placed (Stroke e) = refl
edition_placed (Kerb y) = refl

least_24 : (f : Form) → 24 ≤ least_of (kind_word f)
unfolding least_of
least_24 (Stroke e) = omega arith
least_24 (Kerb y) = omega arith

radius_range : (z : ℤ) → Radius z → word_of z ≤ 268435456
unfolding word_of
radius_range (pos n) h = omega (arith, h.high)
radius_range (negsuc n) h = absurd h.low.le

join_range : (j : Join) → join_word j ≤ 1
unfolding join_word
join_range Bevel = omega arith
join_range Round = omega arith

closed_range : (c : Bool) → closed_word c ≤ 1
unfolding closed_word
closed_range true = omega arith
closed_range false = omega arith

and_false : (b : Bool) → (b && false) ≡ false
and_false true = refl
and_false false = refl

style_none : (f : Form) (g : ℕ) (ps : List ℕ) (vs : List Vertex) (rest : List ℕ) → Formed f g ps vs → (style_row_in (outline_bytes f g ps vs ++ rest)).0 ≡ false
unfolding style_row_in style_row kind_in outline_words parts_words header_of style_words
style_none (Stroke e) g ps vs rest h = rw (header_word (Stroke e) g ps vs rest h 1) refl
style_none (Kerb y) g ps vs rest h =
    let e : 0 ≡ style_fault (word_of y.radius) (join_word y.join) (closed_word y.closed) = no_fault _ _ _ (radius_range y.radius h.1.0) (join_range y.join) (closed_range y.closed) in
    rw (header_word (Kerb y) g ps vs rest h 5, header_word (Kerb y) g ps vs rest h 6, header_word (Kerb y) g ps vs rest h 7, ← e) (and_false (eqb (word_at (outline_bytes (Kerb y) g ps vs ++ rest) 1) kerb_kind))

pub store-none : (f : Form) (g : ℕ) (ps : List ℕ) (vs : List Vertex) (rest : List ℕ) → Formed f g ps vs → NoneHold (store_rows (outline_bytes f g ps vs ++ rest))
unfolding store_rows edition_row edition_in kind_row kind_in unfit_row grade_row count_row count_in length_row outside_row sound_row outline_words parts_words header_of
store-none f g ps vs rest h =
    let s = outline_bytes f g ps vs ++ rest in
    let long : length (outline_bytes f g ps vs) ≤ length s = omega (arith, length-append (outline_bytes f g ps vs) rest) in
    let least : least_of (kind_word f) ≤ length s = omega (arith, least_long f g ps vs) in (
      rw (header_word f g ps vs rest h 0, le-ltb (length s) 24 (omega (arith, least_24 f))) (edition_known f),
      (
        rw (header_word f g ps vs rest h 1) (kind_known f),
        (
          rw (header_word f g ps vs rest h 1, header_word f g ps vs rest h 0, le-ltb (length s) (least_of (kind_word f)) least) (edition_placed f),
          (
            rw (grade_back f g ps vs rest h, le-ltb g 1 h.0.low, le-ltb 8 g h.0.high) refl,
            (
              style_none f g ps vs rest h,
              (
                rw (header_word f g ps vs rest h 3) (le-ltb 4096 (length vs) h.0.count),
                (
                  rw (length_back f g ps vs rest h) (le-ltb (length s) (length (outline_bytes f g ps vs)) long),
                  (
                    rw (vertices_back f g ps vs rest h) (le-ltb (first_outside vs) (length vs) (omega (arith, h.0.inside))),
                    (
                      rw (sound_back f g ps vs rest h) refl,
                      tt,
                    ),
                  ),
                ),
              ),
            ),
          ),
        ),
      ),
    )
