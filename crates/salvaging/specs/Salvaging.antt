-- Document 02, request 14: salvage, its rows, its answer and its promise.
use Rattle.std.specs.Prelude.{◌≡◌, true, false, List, [], ◌∷◌, ◌++◌, ℕ, ◌/◌, eqb, ltb, length, Result, Ok, Err}
use Rattle.outline.specs.Layout.{front_bytes}
use Rattle.outline.specs.Stores.{edition_in, edition_of, grade_in, count_in, path_in, due_in}
use Rattle.outline.specs.declared.Form.TheVariants.{Stroke}
use Rattle.replies.specs.Replies.{Reply, Row, first_row, grade_row, count_row, outside_row, room_row, written}
use Rattle.replies.specs.Refusals.{refusal_of}
use Rattle.replies.specs.declared.Refusal.{Refusal}
use Rattle.heading.specs.StoreRows.{edition_row, kind_row}
use Rattle.checking.specs.OtherKind.{other_kind_row}
use Rattle.differences.specs.Differences.{notes_in}
use Rattle.salvaging.specs.declared.Salvaged.{Salvaged}

-- ---- rows: as reading up to 4, without 8 and without the length test on bodies

-- 6, a cut before the closing count's end.
unfoldable pub cut_row : List ℕ → Row
cut_row s = (ltb (length s) (front_bytes (Stroke (edition_of (edition_in s))) (count_in s)), (6, 0))

-- 19, list longer than the room lent: the notes needed. A note is two words, so an odd last word is no room.
unfoldable pub list_row : ℕ → ℕ → Row
list_row needed room = (ltb room needed, (19, needed / 2))

-- 12, kind 1, comes straight after 7.
unfoldable pub front_rows : List ℕ → List Row
front_rows s = edition_row s ∷ kind_row s ∷ other_kind_row s ∷ grade_row (grade_in s) ∷ count_row (count_in s) ∷ cut_row s ∷ []

-- then a vertex outside the limits, 5 for the output and 19 for the list
unfoldable pub past_rows : List ℕ → ℕ → ℕ → List Row
past_rows s room words = outside_row (path_in s) ∷ room_row (length (due_in s)) room (length (due_in s)) ∷ list_row (length (notes_in s)) words ∷ []

-- ---- the sound outline into one buffer, the notes of what differed into another

unfoldable pub salvage_reply : List ℕ → ℕ → ℕ → Reply
salvage_reply s room words = first_row (front_rows s ++ past_rows s room words) (0, length (due_in s))

unfoldable pub salvage_out : List ℕ → List ℕ → ℕ → List ℕ
salvage_out s out words = written (salvage_reply s (length out) words) (due_in s) out

unfoldable pub salvage_list : List ℕ → ℕ → List ℕ → List ℕ
salvage_list s room list = written (salvage_reply s room (length list)) (notes_in s) list

-- beside the reply how many notes there are; 0 when refused
unfoldable pub noted_with : Reply → List ℕ → ℕ
noted_with told notes = elim (eqb told.0 0) [ true ↦ length notes / 2 | false ↦ 0 ]

unfoldable pub reply_of_salvaged : Result Salvaged Refusal → Reply
reply_of_salvaged (Ok made) = (0, made.bytes)
reply_of_salvaged (Err r) = refusal_of r

unfoldable pub notes_of_salvaged : Result Salvaged Refusal → ℕ
notes_of_salvaged (Ok made) = made.notes
notes_of_salvaged (Err r) = 0

pub record Salvages (store out₀ list₀ : List ℕ) (answer : Result Salvaged Refusal) (out₁ list₁ : List ℕ) : Type 0 where
  pub reply : reply_of_salvaged answer ≡ salvage_reply store (length out₀) (length list₀)
  pub notes : notes_of_salvaged answer ≡ noted_with (salvage_reply store (length out₀) (length list₀)) (notes_in store)
  pub out : out₁ ≡ salvage_out store out₀ (length list₀)
  pub list : list₁ ≡ salvage_list store (length out₀) list₀

abbrev pub OneSalvaging : Type 0
OneSalvaging = (s out list : List ℕ) (r q : Result Salvaged Refusal) (o p m n : List ℕ) → Salvages s out list r o m → Salvages s out list q p n → (r ≡ q) × (o ≡ p) × (m ≡ n)

-- the same of any reply, outline and notes: what the functions below the call promise
pub record Gives (told : Reply) (made notes out₀ list₀ : List ℕ) (answer : Result Salvaged Refusal) (out₁ list₁ : List ℕ) : Type 0 where
  pub reply : reply_of_salvaged answer ≡ told
  pub noted : notes_of_salvaged answer ≡ noted_with told notes
  pub out : out₁ ≡ written told made out₀
  pub list : list₁ ≡ written told notes list₀
