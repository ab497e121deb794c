-- The rows of a store's header: one that holds is the reply, and one that fails leaves the rest; and each row by the outcomes of its tests. Assumes nothing.
use Rattle.std.specs.Prelude.{Result, Ok, Err}
use mathlib.Core.Path.{◌≡◌, refl, sym, ap, ◌∙◌}
use mathlib.Core.Logic.{◌⊎◌, inl, inr}
use mathlib.Core.Bool.{true, false, ◌||◌}
use mathlib.Core.List.{List, [], ◌∷◌}
use Prim.Native.Nat.{ℕ, zero, suc, ◌^◌, ◌≤◌, ◌<◌}
use native.Mathlib.Omega.{arith}
use borrow.Author.Tests.{lt-ltb, le-ltb}
use lib.Dec.{ltb}
use lib.ListN.{length, get_or}
use mir.Syntax.{w8}
use mir.Val.{Fits}
use Rattle.kerb.specs.Styles.{style_of}
use Rattle.kerb.specs.declared.Style.{Style}
use Rattle.kerb.proofs.StyleNumbers.{style_radius}
use Rattle.words.specs.Words.{word_at}
use Rattle.outline.specs.Layout.{edition_number, edition_word, kind_word, length_of}
use Rattle.outline.specs.Stores.{edition_in, kind_in, edition_of, form_in, grade_in, count_in, length_in}
use Rattle.outline.specs.Theorems.{Bytes, FormWithin}
use Rattle.outline.specs.declared.Edition.{Edition}
use Rattle.outline.specs.declared.Edition.TheVariants.{First, Second}
use Rattle.outline.specs.declared.Form.{Form}
use Rattle.outline.specs.declared.Form.TheVariants.{Stroke, Kerb}
use Rattle.outline.proofs.FormLengths.{length_small}
use Rattle.replies.specs.Replies.{Row, first_row, grade_row, count_row}
use Rattle.replies.specs.StyleRows.{style_fault, style_row}
use Rattle.replies.specs.Refusals.{refusal_of}
use Rattle.replies.specs.declared.Refusal.{Refusal}
use Rattle.replies.specs.declared.Refusal.TheVariants.{TooMany, Grade, NotOutline, Kind, StyleWord}
use Rattle.replies.proofs.StyleFaults.{faultless}
use Rattle.heading.specs.StoreRows.{edition_row, kind_row, least_of, misplaced_of, unfit_row, style_row_in, length_row}
use Rattle.heading.specs.Heads.{or_store, kind_number, Head, RowsSay, EditionKnown, Fitting}
use Rattle.heading.specs.declared.Header.{Header}
use Rattle.heading.specs.declared.heads.Kind.{Kind as kind}
use Rattle.heading.specs.declared.heads.Kind.TheVariants.{Stroke as OfStroke, Kerb as OfKerb}

-- a list whose every element fits a byte
pub bytes_of : (s : List ℕ) → ((i : ℕ) → Fits w8 (get_or s i 0)) → Bytes s
bytes_of [] h = tt
bytes_of (b ∷ s) h = ((h 0).fits, bytes_of s (λ i. h (suc i)))

module _ {s : List ℕ} {row : Row} {rows : List Row} where
  pub row_holds : {r : Refusal} → (row.0 ≡ true) × (row.1 ≡ refusal_of r) → RowsSay s (row ∷ rows) (Err r)
  unfolding first_row or_store
  row_holds h = record { says = λ more. rw (h.0, first_row) h.1; head = λ k g. cc }

  pub row_fails : {r : Result Header Refusal} → row.0 ≡ false → RowsSay s rows r → RowsSay s (row ∷ rows) r
  unfolding first_row
  row_fails e p = record { says = λ more. rw (e, first_row) (p.says more); head = p.head }

edition_back : (e : Edition) → e ≡ edition_of (edition_number e)
unfolding edition_of edition_number
edition_back First = refl
edition_back Second = refl

-- ---- each row, by the outcomes of its tests: w is a word that the code has read

module _ (s : List ℕ) where
  pub edition_short : length s < 24 → ((edition_row s).0 ≡ true) × ((edition_row s).1 ≡ refusal_of NotOutline)
  unfolding edition_row
  edition_short h = (rw (lt-ltb (length s) 24 h), refl)

  module _ (long : 24 ≤ length s) {w : ℕ} (e : w ≡ word_at s 0) where
    pub edition_first : w ≡ 1 → ((edition_row s).0 ≡ false) × EditionKnown s First
    unfolding edition_row edition_in edition_number
    edition_first f = let g : word_at s 0 ≡ 1 = sym e ∙ f in (rw (le-ltb (length s) 24 long, g) refl, record { long = long; edition = g })

    pub edition_second : w ≡ 2 → ((edition_row s).0 ≡ false) × EditionKnown s Second
    unfolding edition_row edition_in edition_number
    edition_second f = let g : word_at s 0 ≡ 2 = sym e ∙ f in (rw (le-ltb (length s) 24 long, g) refl, record { long = long; edition = g })

    pub edition_other : (w ≡ 1 → ⊥) → (w ≡ 2 → ⊥) → ((edition_row s).0 ≡ true) × ((edition_row s).1 ≡ refusal_of NotOutline)
    unfolding edition_row edition_in
    edition_other f g = (rw (le-ltb (length s) 24 long) (rw e at (other w f g)), refl)
      where
        other : (j : ℕ) → (j ≡ 1 → ⊥) → (j ≡ 2 → ⊥) → (ltb j 1 || ltb 2 j) ≡ true
        other zero f g = refl
        other (suc zero) f g = absurd (f refl)
        other (suc (suc zero)) f g = absurd (g refl)
        other (suc (suc (suc j))) f g = rw (le-ltb (suc (suc (suc j))) 1 (omega arith), lt-ltb 2 (suc (suc (suc j))) (omega arith)) refl

  module _ {w : ℕ} (e : w ≡ word_at s 1) where
    pub kind_stroke : w ≡ 0 → ((kind_row s).0 ≡ false) × (kind_in s ≡ 0)
    unfolding kind_row kind_in
    kind_stroke f = let g : word_at s 1 ≡ 0 = sym e ∙ f in (rw g refl, g)

    pub kind_kerb : w ≡ 1 → ((kind_row s).0 ≡ false) × (kind_in s ≡ 1)
    unfolding kind_row kind_in
    kind_kerb f = let g : word_at s 1 ≡ 1 = sym e ∙ f in (rw g refl, g)

    pub kind_other : (w ≡ 0 → ⊥) → (w ≡ 1 → ⊥) → ((kind_row s).0 ≡ true) × ((kind_row s).1 ≡ refusal_of (Kind w))
    unfolding kind_row kind_in
    kind_other f g = (lt-ltb 1 (word_at s 1) (rw e at (over w f g)), ap (λ (n : ℕ). (7, n)) (sym e))
      where
        over : (j : ℕ) → (j ≡ 0 → ⊥) → (j ≡ 1 → ⊥) → 1 < j
        over zero f g = absurd (f refl)
        over (suc zero) f g = absurd (g refl)
        over (suc (suc j)) f g = omega arith

module _ {s : List ℕ} {e : Edition} where
  pub stroke_fits : {k : kind} → EditionKnown s e → kind_in s ≡ kind_number k → k ≡ OfStroke → ((unfit_row s).0 ≡ false) × Fitting s e k
  unfolding unfit_row least_of misplaced_of edition_in
  stroke_fits {k} h f g =
      let z : kind_in s ≡ 0 = f ∙ ap kind_number g in
      (rw (z, le-ltb (length s) 24 h.long) refl, record { edition = h.edition; kind = f; long = rw g h.long; first = λ q. cc })

  module _ {k : kind} (h : EditionKnown s e) (f : kind_in s ≡ kind_number k) (g : k ≡ OfKerb) where
    pub kerb_short : length s < 44 → ((unfit_row s).0 ≡ true) × ((unfit_row s).1 ≡ refusal_of NotOutline)
    unfolding unfit_row least_of misplaced_of edition_in
    kerb_short l = let z : kind_in s ≡ 1 = f ∙ ap kind_number g in (rw (z, lt-ltb (length s) 44 l) refl, refl)

    pub kerb_first : 44 ≤ length s → e ≡ First → ((unfit_row s).0 ≡ false) × Fitting s e k
    unfolding unfit_row least_of misplaced_of edition_number
    kerb_first l q =
        let z : kind_in s ≡ 1 = f ∙ ap kind_number g in
        let o : edition_in s ≡ 1 = h.edition ∙ ap edition_number q in
        (rw (z, o, le-ltb (length s) 44 l) refl, record { edition = h.edition; kind = f; long = rw g l; first = λ x. o })

    pub kerb_second : 44 ≤ length s → e ≡ Second → ((unfit_row s).0 ≡ true) × ((unfit_row s).1 ≡ refusal_of NotOutline)
    unfolding unfit_row least_of misplaced_of edition_number
    kerb_second l q =
        let z : kind_in s ≡ 1 = f ∙ ap kind_number g in
        let o : edition_in s ≡ 2 = h.edition ∙ ap edition_number q in
        (rw (z, o, le-ltb (length s) 44 l) refl, refl)

kerb_form : (s : List ℕ) → kind_in s ≡ 1 → form_in s ≡ Kerb (style_of (word_at s 5) (word_at s 6) (word_at s 7))
unfolding form_in
kerb_form s z = rw (z, form_in)

module _ {s : List ℕ} {e : Edition} {k : kind} (h : Fitting s e k) where
  pub stroke_form : k ≡ OfStroke → ((style_row_in s).0 ≡ false) × ((Stroke e ≡ form_in s) × FormWithin (Stroke e))
  unfolding style_row_in form_in
  stroke_form f =
      let z : kind_in s ≡ 0 = h.kind ∙ ap kind_number f in
      (rw z refl, (rw (z, form_in, h.edition) (ap Stroke (edition_back e)), tt))

  module _ (f : k ≡ OfKerb) where
    one : kind_in s ≡ 1
    one = h.kind ∙ ap kind_number f

    pub kerb_long : 44 ≤ length s
    unfolding least_of
    kerb_long = rw f at h.long

    module _ {r j c : ℕ} (er : r ≡ word_at s 5) (ej : j ≡ word_at s 6) (ec : c ≡ word_at s 7) where
      fault_is : style_fault r j c ≡ style_fault (word_at s 5) (word_at s 6) (word_at s 7)
      fault_is = λ i. style_fault (er i) (ej i) (ec i)

      pub style_holds : {i : ℕ} → (0 < i) × (i ≡ style_fault r j c) → ((style_row_in s).0 ≡ true) × ((style_row_in s).1 ≡ refusal_of (StyleWord i))
      unfolding style_row_in style_row
      style_holds {i} p =
          let q : i ≡ style_fault (word_at s 5) (word_at s 6) (word_at s 7) = p.1 ∙ fault_is in
          (rw (one, ← q, lt-ltb 0 i p.0) refl, ap (λ (n : ℕ). (11, n)) (sym q))

      pub style_fails : {y : Style} → style_fault r j c ≡ 0 → y ≡ style_of r j c → ((style_row_in s).0 ≡ false) × ((Kerb y ≡ form_in s) × FormWithin (Kerb y))
      unfolding style_row_in style_row form_in
      style_fails {y} z ey =
          (rw (one, ← fault_is, z) refl, (rw (one, form_in) (ap Kerb (rw (er, ej, ec) at ey)), style_radius r j c (faultless r j c z).0 ey))

module _ {s : List ℕ} {e : Edition} where
  -- the header's first words are those of its form
  pub form_words : {k : kind} → Fitting s e k → (edition_in s ≡ edition_word (form_in s)) × (kind_in s ≡ kind_word (form_in s))
  form_words {k = OfStroke} h = let f : Stroke e ≡ form_in s = (stroke_form h refl).1.0 in (rw (← f) h.edition, rw (← f) h.kind)
  form_words {k = OfKerb} h = let f : form_in s ≡ Kerb (style_of (word_at s 5) (word_at s 6) (word_at s 7)) = kerb_form s h.kind in (rw f (h.first refl), rw f h.kind)

module _ (s : List ℕ) {g : ℕ} (e : g ≡ word_at s 2) where
  pub grade_unknown : (g < 1) ⊎ ((1 ≤ g) × (8 < g)) → ((grade_row (grade_in s)).0 ≡ true) × ((grade_row (grade_in s)).1 ≡ refusal_of (Grade g))
  unfolding grade_row grade_in
  grade_unknown (inl l) = (rw (← e, lt-ltb g 1 l) refl, ap (λ (n : ℕ). (3, n)) (sym e))
  grade_unknown (inr l) = (rw (← e, le-ltb g 1 l.0, lt-ltb 8 g l.1) refl, ap (λ (n : ℕ). (3, n)) (sym e))

  pub grade_known : (1 ≤ g) → (g ≤ 8) → ((grade_row (grade_in s)).0 ≡ false) × ((g ≡ grade_in s) × (1 ≤ g) × (g ≤ 8))
  unfolding grade_row grade_in
  grade_known l m = (rw (← e, le-ltb g 1 l, le-ltb 8 g m) refl, (e, l, m))

module _ (s : List ℕ) {n : ℕ} (e : n ≡ word_at s 3) where
  pub count_many : 4096 < n → ((count_row (count_in s)).0 ≡ true) × ((count_row (count_in s)).1 ≡ refusal_of (TooMany n))
  unfolding count_row count_in
  count_many l = (rw (← e) (lt-ltb 4096 n l), ap (λ (k : ℕ). (2, k)) (sym e))

  pub count_few : n ≤ 4096 → ((count_row (count_in s)).0 ≡ false) × ((n ≡ count_in s) × (n ≤ 4096))
  unfolding count_row count_in
  count_few l = (rw (← e) (le-ltb 4096 n l), (e, l))

module _ (s : List ℕ) {long : ℕ} (e : long ≡ length_in s) where
  pub length_cut : length s < long → ((length_row s).0 ≡ true) × ((length_row s).1 ≡ refusal_of NotOutline)
  unfolding length_row
  length_cut l = (lt-ltb (length s) (length_in s) (rw e at l), refl)

  pub length_held : long ≤ length s → ((length_row s).0 ≡ false) × (length_in s ≤ length s)
  unfolding length_row
  length_held l = let h : length_in s ≤ length s = rw e at l in (le-ltb (length s) (length_in s) h, h)

-- what the length is tested with is the header's
pub length_is : (s : List ℕ) {f : Form} {n m : ℕ} → f ≡ form_in s → n ≡ count_in s → n ≤ 4096 → m ≡ word_at s 4 → m < 2 ^ 32 → (length_of f n m ≡ length_in s) × (length_of f n m < 2 ^ 64)
unfolding length_in
length_is s {f} {n} {m} ef en few em h = (λ i. length_of (ef i) (en i) (em i), length_small f n m few h)

-- none of them held
pub passed : {s : List ℕ} {h : Header} → Head s h → RowsSay s [] (Ok h)
unfolding first_row or_store
passed {s} {h} H = record { says = λ more. refl; head = same }
  where
    same : (x : Header) → ◌≡◌ {A = Result Header Refusal} (Ok h) (Ok x) → Head s x
    same x e = let z : h ≡ x = cc in rw z at H
