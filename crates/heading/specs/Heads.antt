-- What the check of a store's header says: a refusal is the first row that held; where none did, what is known of the store.
use Rattle.std.specs.Prelude.{◌≡◌, true, false, List, [], ◌∷◌, ℕ, ◌≤◌, length, Result, Ok, Err, MatchResult}
use Rattle.words.specs.Words.{word_at}
use Rattle.outline.specs.Layout.{edition_number, first_edition, stroke_kind, kerb_kind}
use Rattle.outline.specs.Stores.{edition_in, kind_in, form_in, grade_in, count_in}
use Rattle.outline.specs.Theorems.{FormWithin, Headed}
use Rattle.outline.specs.declared.Edition.{Edition}
use Rattle.replies.specs.Replies.{Reply, Row, first_row, grade_row, count_row}
use Rattle.replies.specs.Refusals.{refusal_of}
use Rattle.replies.specs.declared.Refusal.{Refusal}
use Rattle.heading.specs.StoreRows.{edition_row, kind_row, least_of, unfit_row, style_row_in, length_row}
use Rattle.heading.specs.declared.Header.{Header}
use Rattle.heading.specs.declared.heads.Kind.{Kind}
use Rattle.heading.specs.declared.heads.Kind.TheVariants.{Stroke, Kerb}

-- the rows of the header
unfoldable pub head_rows : List ℕ → List Row
head_rows s = edition_row s ∷ kind_row s ∷ unfit_row s ∷ grade_row (grade_in s) ∷ style_row_in s ∷ count_row (count_in s) ∷ length_row s ∷ []

-- a refusal's reply, or what further rows say
unfoldable pub or_store : {T : Type 0} → Result T Refusal → Reply → Reply
or_store (Err r) more = refusal_of r
or_store (Ok x) more = more

-- a header that passed its rows
pub record Head (s : List ℕ) (h : Header) : Type 0 where
  pub headed : Headed s
  pub form : h.form ≡ form_in s
  pub within : FormWithin h.form
  pub grade : h.grade ≡ grade_in s
  pub vertices : h.n ≡ count_in s
  pub edges : h.m ≡ word_at s 4
  pub low : 1 ≤ h.grade
  pub high : h.grade ≤ 8

-- what rows of the header say, and what is known where none of them holds
pub record RowsSay (s : List ℕ) (rows : List Row) (r : Result Header Refusal) : Type 0 where
  pub says : (more : Reply) → first_row rows more ≡ or_store r more
  pub head : (h : Header) → r ≡ Ok h → Head s h

-- one row: where it holds the refusal is its own, and where it fails that is known
abbrev pub Tells : {T : Type 0} → Result T Refusal → Row → (T → Type 0) → Type 0
Tells told row Known = MatchResult told (λ x. (row.0 ≡ false) × Known x) (λ r. (row.0 ≡ true) × (row.1 ≡ refusal_of r))

-- a kind's number
abbrev pub kind_number : Kind → ℕ
kind_number Stroke = stroke_kind
kind_number Kerb = kerb_kind

-- a store of an edition that passed the first row
pub record EditionKnown (s : List ℕ) (e : Edition) : Type 0 where
  pub long : 24 ≤ length s
  pub edition : edition_in s ≡ edition_number e

-- one of a kind too that passed the rows before its grade
pub record Fitting (s : List ℕ) (e : Edition) (k : Kind) : Type 0 where
  pub edition : edition_in s ≡ edition_number e
  pub kind : kind_in s ≡ kind_number k
  pub long : least_of (kind_number k) ≤ length s
  pub first : k ≡ Kerb → edition_in s ≡ first_edition
