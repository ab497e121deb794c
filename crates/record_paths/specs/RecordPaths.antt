-- Document 02, requests 4 and 11: a path of n records as numbers, three a record, and their posts, of which those stand gathered that draw and keep read.
use Rattle.std.specs.Prelude.{◌≡◌, List, [], ◌∷◌, ℕ, ◌*◌, ◌≤◌, ℤ, length, take, drop, Result, Ok, Err}
use Rattle.runs.specs.Runs.{spread}
use Rattle.words.specs.Words.{words_of}
use Rattle.records.specs.Records.{record_numbers}
use Rattle.records.specs.declared.Record.{Record}
use Rattle.replies.specs.Replies.{first_row, draw_grade_row, count_row}
use Rattle.replies.specs.Checks.{PathSays}
use Rattle.replies.specs.declared.Refusal.{Refusal}
use Rattle.drawing.specs.Drawing.{draw_reply}
use Rattle.keeping.specs.Keeping.{keep_reply}

-- How many of n records are read: none where 3 or 2 is the reply, else all.
unfoldable pub wanted_of : ℕ → ℕ → ℕ
wanted_of n g = first_row (((draw_grade_row g).0, 0) ∷ ((count_row n).0, 0) ∷ []) n

-- The path is three numbers a record, its posts one, and those that are wanted stand first among the numbers: the path's, and then the posts.
pub record Gathered (numbers : List ℤ) (n grade : ℕ) (path : List ℤ) (posts : List ℕ) : Type 0 where
  pub long : length path ≡ 3 * n
  pub many : length posts ≡ n
  pub first : take (3 * wanted_of n grade) numbers ≡ take (3 * wanted_of n grade) path
  pub after : words_of (take (wanted_of n grade) (drop (3 * wanted_of n grade) numbers)) ≡ take (wanted_of n grade) posts

-- What grade and count decide of every path of so many records.
pub record CountSays (n grade : ℕ) (r : Result ℕ Refusal) : Type 0 where
  pub refused : (path : List ℤ) (why : Refusal) → length path ≡ 3 * n → r ≡ Err why → PathSays path grade r
  pub wanted : (why : Refusal) → r ≡ Err why → wanted_of n grade ≡ 0
  pub passed : (m : ℕ) → r ≡ Ok m → (m ≡ n) × (wanted_of n grade ≡ n) × (n ≤ 4096)

-- Records are whole vertices: 1 is the reply to none.
abbrev pub NeverUneven : Type 0
NeverUneven = (vs : List Record) (ps : List ℕ) (g room : ℕ) → ((draw_reply (spread record_numbers vs) g room).0 ≡ 1 → ⊥) × ((keep_reply (spread record_numbers vs) ps g room).0 ≡ 1 → ⊥)
