-- Document 02, request 5, theorems over the definitions: when a float is taken, with which reason it is refused, one outcome for each
-- call, and that the calls undo each other.
use Rattle.std.specs.Prelude.{◌≡◌, ℕ, suc, ◌/◌, ◌%◌, ◌<◌, ◌≤◌, Bool, true, false, List, [], ◌∷◌, ◌++◌, map, length, take, drop, ℤ, pos, int_lt, is_nan, slice_index_or, Float, Result, Ok}
use Rattle.std.proofs.Math.Option.{some}
use Rattle.std.specs.Float.{binary32}
use Rattle.std.specs.Float.Ieee.{fits}
use Rattle.oldest.specs.Floats.{is_infinite, has_fraction, magnitude_of, whole_of, plain_zero}
use Rattle.oldest.specs.Taken.{Taken, reasons, width_reasons, coordinate_of, width_of, reason_of, refused_in}
use Rattle.oldest.specs.Written.{coordinate_back_of, width_back_of}
use Rattle.oldest.specs.Calls.{import_reply, import_out, export_reply, export_out}
use Rattle.oldest.specs.Answers.{Imports, Exports}
use Rattle.replies.specs.declared.Refusal.{Refusal}

-- ---- one float

-- a float that is a whole number of at most so much in size
pub record IsWhole (most : ℕ) (x : Float) : Type 0 where
  pub number : is_nan x ≡ false
  pub finite : is_infinite x ≡ false
  pub whole : has_fraction x ≡ false
  pub within : magnitude_of x ≤ most

-- a float that is the width of a stroke
pub record IsWidth (x : Float) : Type 0 where
  pub is_whole : IsWhole 536870912 x
  pub positive : int_lt (whole_of x) (pos 0) ≡ false
  pub even : magnitude_of x % 2 ≡ 0

-- A coordinate is taken exactly if it is a whole number within the limits, and as that number.
abbrev pub CoordinateTaken : Type 0
CoordinateTaken = (x : Float) → (IsWhole 268435456 x → coordinate_of x ≡ Ok (whole_of x)) × ((n : ℤ) → coordinate_of x ≡ Ok n → IsWhole 268435456 x × (whole_of x ≡ n))

-- A width is taken exactly if it is an even whole number from 0 to 536,870,912, and as half of it.
abbrev pub WidthTaken : Type 0
WidthTaken = (x : Float) → (IsWidth x → width_of x ≡ Ok (pos (magnitude_of x / 2))) × ((r : ℤ) → width_of x ≡ Ok r → IsWidth x × (pos (magnitude_of x / 2) ≡ r))

-- An answer t to the float x, after tests in order: taken if no test holds; else x itself, with the number, from 1, of the first that does.
pub record FirstReason (tests : List Bool) (x : Float) (t : Taken) : Type 0 where
  pub taken : reason_of t ≡ 0 → (j : ℕ) → slice_index_or tests j false ≡ false
  pub holds : (k : ℕ) → reason_of t ≡ suc k → slice_index_or tests k false ≡ true
  pub first : (k : ℕ) → reason_of t ≡ suc k → (j : ℕ) → j < k → slice_index_or tests j false ≡ false
  pub itself : (k : ℕ) → reason_of t ≡ suc k → refused_in t ≡ some x

abbrev pub tests : List (Bool × Taken) → List Bool
tests rows = map (λ row. row.0) rows

abbrev pub CoordinateReason : Type 0
CoordinateReason = (x : Float) → FirstReason (tests (reasons 268435456 x)) x (coordinate_of x)

abbrev pub WidthReason : Type 0
WidthReason = (x : Float) → FirstReason (tests (reasons 536870912 x ++ width_reasons x)) x (width_of x)

-- floats of 32 bits, which all lent ones are
abbrev pub Fits32 : Float → Type 0
Fits32 x = fits binary32 x ≡ true

-- A number is written as a float exactly if some float is taken as it, and as that float, minus zero apart; what is written is taken back.
abbrev pub CoordinateWritten : Type 0
CoordinateWritten = (n : ℤ) (x : Float) → (Fits32 x → coordinate_of x ≡ Ok n → coordinate_back_of n ≡ Ok (plain_zero x)) × (coordinate_back_of n ≡ Ok x → coordinate_of x ≡ Ok n)

abbrev pub WidthWritten : Type 0
WidthWritten = (r : ℤ) (x : Float) → (Fits32 x → width_of x ≡ Ok r → width_back_of r ≡ Ok (plain_zero x)) × (width_back_of r ≡ Ok x → width_of x ≡ Ok r)

-- ---- the calls

-- Each call has one outcome: two that its promise allows coincide.
abbrev pub OneImport : Type 0
OneImport = (floats : List Float) (out : List ℤ) (r q : Result ℕ Refusal) (o p : List ℤ) → Imports floats out r o → Imports floats out q p → (r ≡ q) × (o ≡ p)

abbrev pub OneExport : Type 0
OneExport = (numbers : List ℤ) (out : List Float) (r q : Result ℕ Refusal) (o p : List Float) → Exports numbers out r o → Exports numbers out q p → (r ≡ q) × (o ≡ p)

abbrev pub Every : {A : Type 0} → (A → Type 0) → List A → Type 0
Every P [] = Unit {0}
Every P (x ∷ l) = P x × Every P l

-- What is imported and exported again has the same numbers, minus zero apart.
abbrev pub ImportExport : Type 0
ImportExport = (floats : List Float) (out : List ℤ) (room : List Float) → Every Fits32 floats → (import_reply floats (length out)).0 ≡ 0 → length floats ≤ length room
    → (export_reply (take (length floats) (import_out floats out)) (length room) ≡ (0, length floats / 3))
    × (export_out (take (length floats) (import_out floats out)) room ≡ map plain_zero floats ++ drop (length floats) room)

-- What is exported and imported again has the same numbers.
abbrev pub ExportImport : Type 0
ExportImport = (numbers : List ℤ) (out : List Float) (room : List ℤ) → (export_reply numbers (length out)).0 ≡ 0 → length numbers ≤ length room
    → (import_reply (take (length numbers) (export_out numbers out)) (length room) ≡ (0, length numbers / 3))
    × (import_out (take (length numbers) (export_out numbers out)) room ≡ numbers ++ drop (length numbers) room)
