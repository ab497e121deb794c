-- Document 02, request 5: what the importer answers to a float.
use Rattle.std.specs.Prelude.{ℕ, ◌/◌, ◌%◌, Bool, not, List, [], ◌∷◌, ◌++◌, ℤ, pos, ◌==◌, int_lt, is_nan, nat_lt, Float, Result, Ok, Err}
use Rattle.std.proofs.Math.Option.{Option, none, some}
use Rattle.replies.specs.Replies.{first_row}
use Rattle.oldest.specs.Floats.{is_infinite, has_fraction, magnitude_of, whole_of}
use Rattle.oldest.specs.declared.OldVertex.{OldVertex}
use Rattle.oldest.specs.declared.NotTaken.{NotTaken}
use Rattle.oldest.specs.declared.NotTaken.TheVariants.{NotANumber, Infinite, Fraction, TooLarge, NegativeWidth, OddWidth}
use Rattle.oldest.specs.declared.WholeVertex.{WholeVertex}
use Rattle.oldest.specs.declared.VertexNotTaken.{VertexNotTaken}

-- what is answered to a float: the whole number, or why it is not taken
abbrev pub Taken : Type 0
Taken = Result ℤ NotTaken

-- and to a vertex
abbrev pub VertexTaken : Type 0
VertexTaken = Result WholeVertex VertexNotTaken

-- the reasons in order: not a number, infinite, has a fraction, too large in size
unfoldable pub reasons : ℕ → Float → List (Bool × Taken)
reasons most x = (is_nan x, Err (NotANumber x)) ∷ (is_infinite x, Err (Infinite x)) ∷ (has_fraction x, Err (Fraction x)) ∷ (nat_lt most (magnitude_of x), Err (TooLarge x)) ∷ []

-- then, of a width: negative width, odd width
unfoldable pub width_reasons : Float → List (Bool × Taken)
width_reasons x = (int_lt (whole_of x) (pos 0), Err (NegativeWidth x)) ∷ (not (magnitude_of x % 2 == 0), Err (OddWidth x)) ∷ []

-- a whole number of at most so much in size
unfoldable pub whole_within : ℕ → Float → Taken
whole_within most x = first_row (reasons most x) (Ok (whole_of x))

-- A coordinate must be a whole number within the limits.
unfoldable pub coordinate_of : Float → Taken
coordinate_of x = whole_within 268435456 x

-- A width must be an even whole number from 0 to 536,870,912, and the radius is half of it.
unfoldable pub width_of : Float → Taken
width_of x = first_row (reasons 536870912 x ++ width_reasons x) (Ok (pos (magnitude_of x / 2)))

-- the whole number, where one is answered
unfoldable pub whole_in : Taken → Option ℤ
whole_in (Ok n) = some n
whole_in (Err why) = none

-- the reasons' numbers, in order from 1; 0 is taken
unfoldable pub reason_of : Taken → ℕ
reason_of (Ok n) = 0
reason_of (Err (NotANumber x)) = 1
reason_of (Err (Infinite x)) = 2
reason_of (Err (Fraction x)) = 3
reason_of (Err (TooLarge x)) = 4
reason_of (Err (NegativeWidth x)) = 5
reason_of (Err (OddWidth x)) = 6

-- the float that could not be taken, where one is answered
unfoldable pub refused_in : Taken → Option Float
refused_in (Ok n) = none
refused_in (Err (NotANumber x)) = some x
refused_in (Err (Infinite x)) = some x
refused_in (Err (Fraction x)) = some x
refused_in (Err (TooLarge x)) = some x
refused_in (Err (NegativeWidth x)) = some x
refused_in (Err (OddWidth x)) = some x

-- what follows a whole number, or the place of what is none
unfoldable pub or_place : ℕ → Taken → (ℤ → VertexTaken) → VertexTaken
or_place place (Ok n) next = next n
or_place place (Err why) next = Err (record { place = place; reason = why })

unfoldable pub vertex_taken_of : OldVertex → VertexTaken
vertex_taken_of v =
    or_place 0 (coordinate_of v.x) (λ x. or_place 1 (coordinate_of v.y) (λ y. or_place 2 (width_of v.width) (λ r. Ok (record { x = x; y = y; radius = r }))))
