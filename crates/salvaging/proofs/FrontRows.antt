-- The rows of a store's header and table, by each outcome of the tests. Assumes nothing.
use mathlib.Core.Path.{◌≡◌, refl, sym, ap, ◌∙◌, subst}
use mathlib.Core.Bool.{true, false}
use mathlib.Core.List.{List, [], ◌∷◌}
use Prim.Native.Nat.{ℕ, zero, suc, ◌≤◌, ◌<◌}
use native.Mathlib.Omega.{arith}
use borrow.Author.Tests.{eq-eqb, lt-ltb, le-ltb}
use lib.Dec.{eqb}
use lib.ListN.{length}
use Rattle.words.specs.Words.{word_at}
use Rattle.outline.specs.Layout.{edition_number, kerb_kind, front_bytes}
use Rattle.outline.specs.Stores.{edition_in, kind_in, edition_of, form_in, grade_in, count_in}
use Rattle.outline.specs.declared.Edition.{Edition}
use Rattle.outline.specs.declared.Form.TheVariants.{Stroke}
use Rattle.replies.specs.Replies.{Row, first_row, grade_row, count_row}
use Rattle.replies.specs.Refusals.{refusal_of}
use Rattle.replies.specs.declared.Refusal.{Refusal}
use Rattle.replies.specs.declared.Refusal.TheVariants.{TooMany, Grade, NotOutline, Kind, OtherKind}
use Rattle.heading.specs.StoreRows.{edition_row, kind_row}
use Rattle.checking.specs.OtherKind.{other_kind_row}
use Rattle.salvaging.specs.Salvaging.{cut_row, front_rows}
use Rattle.salvaging.specs.FrontChecks.{or_front, FrontFits, RowsTell}
use Rattle.differences.specs.declared.fronts.Front.{Front}
use Rattle.differences.proofs.Fronted.{edition_told, fronted}
use Rattle.std.specs.Prelude.{Result, Ok, Err}

-- ---- one row

module _ (s : List ℕ) (row : Row) {rows : List Row} where
  row_holds : (r : Refusal) → row.0 ≡ true → row.1 ≡ refusal_of r → RowsTell s (row ∷ rows) (Err r)
  unfolding first_row or_front
  row_holds r e f = record { says = λ more. rw (e, first_row) f; fits = λ h g. cc }

  row_fails : {r : Result Front Refusal} → row.0 ≡ false → RowsTell s rows r → RowsTell s (row ∷ rows) r
  unfolding first_row
  row_fails e p = record { says = λ more. rw (e, first_row) (p.says more); fits = p.fits }

-- ---- edition and kind

module _ (s : List ℕ) where
  pub front_short : length s < 24 → RowsTell s (front_rows s) (Err NotOutline)
  unfolding front_rows edition_row
  front_short l = row_holds s (edition_row s) NotOutline (rw (lt-ltb (length s) 24 l)) refl

  module _ (long : 24 ≤ length s) {e : ℕ} (ee : e ≡ word_at s 0) where
    pub front_older : e < 1 → RowsTell s (front_rows s) (Err NotOutline)
    unfolding front_rows edition_row edition_in
    front_older n = row_holds s (edition_row s) NotOutline (rw (le-ltb (length s) 24 long, lt-ltb (word_at s 0) 1 (rw ee at n))) refl

    pub front_newer : 1 ≤ e → 2 < e → RowsTell s (front_rows s) (Err NotOutline)
    unfolding front_rows edition_row edition_in
    front_newer l n = row_holds s (edition_row s) NotOutline (rw (le-ltb (length s) 24 long, le-ltb (word_at s 0) 1 (rw ee at l), lt-ltb 2 (word_at s 0) (rw ee at n))) refl

    module _ (oldest : 1 ≤ e) (newest : e ≤ 2) {k : ℕ} (ek : k ≡ word_at s 1) where
      edition_fails : (edition_row s).0 ≡ false
      unfolding edition_row edition_in
      edition_fails = rw (le-ltb (length s) 24 long, le-ltb (word_at s 0) 1 (rw ee at oldest), le-ltb 2 (word_at s 0) (rw ee at newest))

      pub front_kind : 1 < k → RowsTell s (front_rows s) (Err (Kind k))
      unfolding front_rows kind_row kind_in
      front_kind l = row_fails s (edition_row s) edition_fails (row_holds s (kind_row s) (Kind k) (lt-ltb 1 (word_at s 1) (rw ek at l)) (ap (λ (n : ℕ). (7, n)) (sym ek)))

      module _ (known : k ≤ 1) where
        kind_fails : (kind_row s).0 ≡ false
        unfolding kind_row kind_in
        kind_fails = le-ltb 1 (word_at s 1) (rw ek at known)

        pub front_other : k ≡ 1 → RowsTell s (front_rows s) (Err (OtherKind k))
        unfolding front_rows other_kind_row kind_in
        front_other z =
            row_fails s (edition_row s) edition_fails (row_fails s (kind_row s) kind_fails (row_holds s (other_kind_row s) (OtherKind k) (eq-eqb (word_at s 1) 1 (sym ek ∙ z)) (ap (λ (n : ℕ). (12, n)) (sym ek))))

        module _ (z : k ≡ 1 → ⊥) where
          pub stroke_kind_lem : kind_in s ≡ 0
          unfolding kind_in
          stroke_kind_lem = sym ek ∙ none k known z
            where
              none : (j : ℕ) → j ≤ 1 → (j ≡ 1 → ⊥) → j ≡ 0
              none zero l f = refl
              none (suc zero) l f = absurd (f refl)
              none (suc (suc j)) l f = absurd (omega arith)

          pub front_past : {r : Result Front Refusal} → RowsTell s (grade_row (grade_in s) ∷ count_row (count_in s) ∷ cut_row s ∷ []) r → RowsTell s (front_rows s) r
          unfolding front_rows other_kind_row
          front_past p = row_fails s (edition_row s) edition_fails (row_fails s (kind_row s) kind_fails (row_fails s (other_kind_row s) (rw stroke_kind_lem refl) p))

-- ---- grade, vertices and the table

module _ (s : List ℕ) {g : ℕ} (eg : g ≡ word_at s 2) where
  pub grade_low : {rows : List Row} → g < 1 → RowsTell s (grade_row (grade_in s) ∷ rows) (Err (Grade g))
  unfolding grade_row grade_in
  grade_low l = row_holds s (grade_row (grade_in s)) (Grade g) (rw (lt-ltb (word_at s 2) 1 (rw eg at l))) (ap (λ (n : ℕ). (3, n)) (sym eg))

  module _ (low : 1 ≤ g) where
    pub grade_high : {rows : List Row} → 8 < g → RowsTell s (grade_row (grade_in s) ∷ rows) (Err (Grade g))
    unfolding grade_row grade_in
    grade_high l = row_holds s (grade_row (grade_in s)) (Grade g) (rw (le-ltb (word_at s 2) 1 (rw eg at low), lt-ltb 8 (word_at s 2) (rw eg at l))) (ap (λ (n : ℕ). (3, n)) (sym eg))

    module _ (high : g ≤ 8) {n : ℕ} (en : n ≡ word_at s 3) where
      grade_fails : (grade_row (grade_in s)).0 ≡ false
      unfolding grade_row grade_in
      grade_fails = rw (le-ltb (word_at s 2) 1 (rw eg at low), le-ltb 8 (word_at s 2) (rw eg at high))

      pub table_many : {rows : List Row} → 4096 < n → RowsTell s (grade_row (grade_in s) ∷ count_row (count_in s) ∷ rows) (Err (TooMany n))
      unfolding count_row count_in
      table_many l = row_fails s (grade_row (grade_in s)) grade_fails (row_holds s (count_row (count_in s)) (TooMany n) (lt-ltb 4096 (word_at s 3) (rw en at l)) (ap (λ (k : ℕ). (2, k)) (sym en)))

      module _ (few : n ≤ 4096) {w : ℕ} {e : Edition} {end : ℕ} (ew : w ≡ word_at s 0) (ee : e ≡ edition_of w) (ed : end ≡ front_bytes (Stroke e) n) where
        count_fails : (count_row (count_in s)).0 ≡ false
        unfolding count_row count_in
        count_fails = le-ltb 4096 (word_at s 3) (rw en at few)

        edition_of_lem : e ≡ edition_of (edition_in s)
        unfolding edition_in
        edition_of_lem = ee ∙ ap edition_of ew

        end_of : end ≡ front_bytes (Stroke (edition_of (edition_in s))) (count_in s)
        unfolding count_in
        end_of = ed ∙ (λ i. front_bytes (Stroke (edition_of_lem i)) (en i))

        pub table_cut : length s < end → RowsTell s (grade_row (grade_in s) ∷ count_row (count_in s) ∷ cut_row s ∷ []) (Err NotOutline)
        unfolding cut_row
        table_cut l =
            row_fails s (grade_row (grade_in s)) grade_fails (row_fails s (count_row (count_in s)) count_fails (row_holds s (cut_row s) NotOutline (lt-ltb (length s) (front_bytes (Stroke (edition_of (edition_in s))) (count_in s)) (rw end_of at l)) refl))

-- ---- a front of the store

stroke_form : (s : List ℕ) → eqb (kind_in s) kerb_kind ≡ false → form_in s ≡ Stroke (edition_of (edition_in s))
unfolding form_in
stroke_form s e = rw (e, form_in)

pub front_fits : (f : Front) → FrontFits f.store.now f
front_fits f = record {
  store = refl;
  fronted = fronted f;
  form = stroke_form f.store.now f.stroke ∙ ap Stroke (sym (edition_told f));
  grade = f.graded;
  low = f.low;
  high = f.high;
}

table_fits : (f : Front) → RowsTell f.store.now (grade_row (grade_in f.store.now) ∷ count_row (count_in f.store.now) ∷ cut_row f.store.now ∷ []) (Ok f)
unfolding grade_row count_row cut_row first_row or_front
table_fits f =
    let s : List ℕ = f.store.now in
    let low : 1 ≤ grade_in s = rw f.graded at f.low in
    let high : grade_in s ≤ 8 = rw f.graded at f.high in
    let few : count_in s ≤ 4096 = rw f.counted at f.few in
    let long : front_bytes (Stroke (edition_of (edition_in s))) (count_in s) ≤ length s = rw (edition_told f, f.counted) at f.long in
    row_fails s (grade_row (grade_in s)) (rw (le-ltb (grade_in s) 1 low, le-ltb 8 (grade_in s) high)) (row_fails s (count_row (count_in s)) (le-ltb 4096 (count_in s) few) (row_fails s (cut_row s) (le-ltb (length s) (front_bytes (Stroke (edition_of (edition_in s))) (count_in s)) long) (record { says = λ more. refl; fits = same })))
  where
    same : (h : Front) → ◌≡◌ {A = Result Front Refusal} (Ok f) (Ok h) → FrontFits f.store.now h
    same h q = let z : f ≡ h = cc in subst (λ (x : Front). FrontFits f.store.now x) z (front_fits f)

pub table_holds : (s : List ℕ) (f : Front) → f.store.now ≡ s → RowsTell s (grade_row (grade_in s) ∷ count_row (count_in s) ∷ cut_row s ∷ []) (Ok f)
table_holds s f e = subst (λ (x : List ℕ). RowsTell x (grade_row (grade_in x) ∷ count_row (count_in x) ∷ cut_row x ∷ []) (Ok f)) e (table_fits f)

-- a header's word and kind, as a front has them
pub edition_numbered : (s : List ℕ) {w : ℕ} {e : Edition} → w ≡ word_at s 0 → e ≡ edition_of w → edition_number e ≡ edition_number (edition_of (edition_in s))
unfolding edition_in
edition_numbered s p q = ap edition_number (q ∙ ap edition_of p)

pub no_kerb : (s : List ℕ) → kind_in s ≡ 0 → eqb (kind_in s) kerb_kind ≡ false
no_kerb s e = rw e refl
