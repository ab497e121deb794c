-- What the check of a store's rows says: a refusal is the first row that held; where none did, what is known of the store.
use Rattle.std.specs.Prelude.{◌≡◌, List, [], ◌∷◌, ℕ, ◌*◌, ℤ, take, Result, Ok, OnOk}
use Rattle.runs.specs.Runs.{spread}
use Rattle.paths.specs.Paths.{Within}
use Rattle.outline.specs.Stores.{grade_in, path_in}
use Rattle.replies.specs.Replies.{Reply, Row, first_row, outside_row}
use Rattle.replies.specs.declared.Refusal.{Refusal}
use Rattle.heading.specs.Heads.{or_store, Head}
use Rattle.heading.specs.Shows.{lent_numbers, lent_width}
use Rattle.heading.specs.StoreRows.{sound_row, store_rows}
use Rattle.heading.specs.declared.Header.{Header}

-- the rows of what follows the header
unfoldable pub rest_rows : List ℕ → List Row
rest_rows s = outside_row (path_in s) ∷ sound_row s ∷ []

-- a store that passed every shared row
pub record Sound (s : List ℕ) (h : Header) : Type 0 where
  pub head : Head s h
  pub within : Within (grade_in s) (path_in s)
  pub passed : (more : Reply) → first_row (store_rows s) more ≡ more

pub record RestSays (s : List ℕ) (r : Result (Unit {0}) Refusal) : Type 0 where
  pub says : (more : Reply) → first_row (rest_rows s) more ≡ or_store r more
  pub within : OnOk r (Within (grade_in s) (path_in s))

-- every shared row; a store that holds leaves its path at the front of the numbers p
pub record StoreSays (s : List ℕ) (p : List ℤ) (r : Result Header Refusal) : Type 0 where
  pub says : (more : Reply) → first_row (store_rows s) more ≡ or_store r more
  pub sound : (h : Header) → r ≡ Ok h → Sound s h
  pub path : (h : Header) → r ≡ Ok h → take (lent_width h.form * h.n) p ≡ spread (lent_numbers h.form) (path_in s)
