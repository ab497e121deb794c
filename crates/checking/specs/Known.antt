-- What is known of a store that passed its rows.
use Rattle.std.specs.Prelude.{◌≡◌, List, ◌∷◌, ℕ, ◌*◌, ◌≤◌, ℤ, length, take}
use Rattle.paths.specs.Paths.{path_numbers, Within}
use Rattle.words.specs.Words.{word_at}
use Rattle.outline.specs.Stores.{form_in, grade_in, count_in, length_in, path_in}
use Rattle.outline.specs.declared.Edition.{Edition}
use Rattle.outline.specs.declared.Form.TheVariants.{Stroke}
use Rattle.replies.specs.Replies.{Reply, Row, first_row}
use Rattle.runs.specs.Runs.{spread}
use Rattle.heading.specs.Shows.{lent_numbers, lent_width}
use Rattle.heading.specs.declared.Header.{Header}
use Rattle.checking.specs.OtherKind.{other_kind_row}
use Rattle.checking.specs.StoreChecks.{Sound}
use Rattle.heading.specs.StoreRows.{store_rows}

-- a store that passed its rows: its header's words, and its vertices at the front of the numbers of a path
pub record Known (s : List ℕ) (p : List ℤ) (e : Edition) (g n m : ℕ) : Type 0 where
  pub form : form_in s ≡ Stroke e
  pub grade : g ≡ grade_in s
  pub vertices : n ≡ count_in s
  pub edges : m ≡ word_at s 4
  pub long : length_in s ≤ length s
  pub within : Within (grade_in s) (path_in s)
  pub passed : (more : Reply) → first_row (store_rows s) more ≡ more
  pub other : (rows : List Row) (last : Reply) → first_row (other_kind_row s ∷ rows) last ≡ first_row rows last
  pub path : take (3 * n) p ≡ path_numbers (path_in s)

-- the same of a store of any form
pub record Passed (s : List ℕ) (p : List ℤ) (h : Header) : Type 0 where
  pub sound : Sound s h
  pub path : take (lent_width h.form * h.n) p ≡ spread (lent_numbers h.form) (path_in s)
