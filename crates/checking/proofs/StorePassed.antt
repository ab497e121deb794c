-- What is known of a store of whose rows none holds: it is as long as it says, sound, and its path, form and posts are within the limits and suit each
-- other. Assumes nothing.
use mathlib.Core.Path.{◌≡◌, refl, sym, ap, subst}
use mathlib.Core.Bool.{Bool, true, false}
use mathlib.Core.List.{List}
use Prim.Native.Nat.{ℕ, zero, suc, ◌≤◌}
use native.Mathlib.Nat.{le_antisymm}
use native.Mathlib.Omega.{arith}
use borrow.Author.Tests.{ltb-false, not-false}
use lib.Dec.{eqb}
use lib.ListN.{length, take, drop}
use Rattle.contacts.proofs.Allowed.{outside_most}
use Rattle.paths.specs.Paths.{Within}
use Rattle.kerb.specs.Styles.{style_of}
use Rattle.kerb.specs.declared.Style.{Style}
use Rattle.kerb.proofs.StyleNumbers.{style_radius}
use Rattle.turning.specs.Bounds.{Radius}
use Rattle.words.specs.Words.{words_in, word_at}
use Rattle.outline.specs.Layout.{kerb_kind, header_words, entry_words}
use Rattle.outline.specs.Stores.{kind_in, edition_in, edition_of, form_in, grade_in, count_in, length_in, entries_in, radius_in, path_in, posts_from, posts_in, due_in, sound_of}
use Rattle.outline.specs.Theorems.{AllRadius, Suits, Formed}
use Rattle.outline.specs.declared.Form.{Form}
use Rattle.outline.specs.declared.Form.TheVariants.{Stroke, Kerb}
use Rattle.outline.proofs.ReadBack.{path_count_in, same_is, sound_suits}
use Rattle.replies.specs.Replies.{grade_row, count_row, outside_row}
use Rattle.replies.specs.StyleRows.{style_fault, style_row}
use Rattle.replies.proofs.Rows.{NoneHold, Coded, either}
use Rattle.replies.proofs.StyleFaults.{faultless}
use Rattle.heading.specs.StoreRows.{edition_row, kind_row, unfit_row, style_row_in, length_row, sound_row, store_rows}

-- a row that holds has a reply of its own
pub store_coded : (s : List ℕ) → Coded (store_rows s)
unfolding store_rows edition_row kind_row unfit_row grade_row style_row_in style_row count_row length_row outside_row sound_row
store_coded s = (refl, (refl, (refl, (refl, (refl, (refl, (refl, (refl, (refl, tt)))))))))

-- ---- every vertex of a kerb's store has the style's radius

entries_radius : (y : Style) (n : ℕ) (ws : List ℕ) → AllRadius y.radius (entries_in (Kerb y) n ws)
unfolding entries_in radius_in
entries_radius y zero ws = tt
entries_radius y (suc n) ws = (refl, entries_radius y n (drop (entry_words (Kerb y)) ws))

pub kerb_suits : (s : List ℕ) (y : Style) → form_in s ≡ Kerb y → Radius y.radius → Suits (Kerb y) (posts_in s) (path_in s)
unfolding path_in posts_in posts_from
kerb_suits s y f r = (
  r,
  subst (λ (x : Form). AllRadius y.radius (entries_in x (count_in s) (drop (header_words x) (words_in s)))) (sym f) (entries_radius y (count_in s) (drop (header_words (Kerb y)) (words_in s))),
  ap (λ (x : Form). posts_from x (count_in s) (drop (header_words x) (words_in s))) f,
)

-- ---- none of its rows holds

module _ (s : List ℕ) (h : NoneHold (store_rows s)) where
  pub passed_long : length_in s ≤ length s
  unfolding store_rows length_row
  passed_long = ltb-false _ _ h.1.1.1.1.1.1.0

  pub passed_sound : sound_of s ≡ true
  unfolding store_rows sound_row
  passed_sound = not-false _ h.1.1.1.1.1.1.1.1.0

  -- the store's own bytes are what is due
  pub none-due : take (length_in s) s ≡ due_in s
  unfolding sound_of
  none-due = same_is _ _ passed_sound

  pub passed_within : Within (grade_in s) (path_in s)
  unfolding store_rows grade_row count_row outside_row
  passed_within =
      let g = either _ _ h.1.1.1.0 in
      record {
        low = ltb-false _ _ g.0;
        high = ltb-false _ _ g.1;
        count = omega (arith, path_count_in s, ltb-false 4096 (count_in s) h.1.1.1.1.1.0);
        inside = le_antisymm (outside_most (path_in s)) (ltb-false _ _ h.1.1.1.1.1.1.1.0);
      }

  -- of a kerb its style is in its ranges
  pub passed_style : eqb (kind_in s) kerb_kind ≡ true → style_fault (word_at s 5) (word_at s 6) (word_at s 7) ≡ 0
  unfolding store_rows style_row_in style_row
  passed_style e =
      let q : style_fault (word_at s 5) (word_at s 6) (word_at s 7) ≤ 0 = ltb-false _ _ (rw e at h.1.1.1.1.0) in
      omega (arith, q)

  pub passed_kerb : eqb (kind_in s) kerb_kind ≡ true → form_in s ≡ Kerb (style_of (word_at s 5) (word_at s 6) (word_at s 7))
  unfolding form_in
  passed_kerb e = rw (e, form_in)

  pub passed_stroke : eqb (kind_in s) kerb_kind ≡ false → form_in s ≡ Stroke (edition_of (edition_in s))
  unfolding form_in
  passed_stroke e = rw (e, form_in)

  suits_by : (b : Bool) → eqb (kind_in s) kerb_kind ≡ b → Suits (form_in s) (posts_in s) (path_in s)
  suits_by true e =
      let y = style_of (word_at s 5) (word_at s 6) (word_at s 7) in
      let r : Radius y.radius = style_radius (word_at s 5) (word_at s 6) (word_at s 7) {y = y} (faultless _ _ _ (passed_style e)).0 refl in
      subst (λ (x : Form). Suits x (posts_in s) (path_in s)) (sym (passed_kerb e)) (kerb_suits s y (passed_kerb e) r)
  suits_by false e = subst (λ (x : Form). Suits x (posts_in s) (path_in s)) (sym (passed_stroke e)) (sound_suits s (edition_of (edition_in s)) (passed_stroke e) passed_sound)

  pub passed_formed : Formed (form_in s) (grade_in s) (posts_in s) (path_in s)
  passed_formed = (passed_within, suits_by (eqb (kind_in s) kerb_kind) refl)
