-- Document 02, request 5: what the writer answers to a number: the float nearest to it, where the importer takes that float back to the number.
use Rattle.std.specs.Prelude.{true, false, ◌||◌, ℤ, pos, ◌*ℤ◌, Float, Result, Ok, Err}
use Rattle.std.proofs.Math.Option.{Option, none, some}
use Rattle.std.specs.Int.Signed.{lt_z}
use Rattle.std.specs.Float.{binary32}
use Rattle.std.specs.Float.Ieee.{of_int}
use Rattle.plane.specs.Vectors.{same_number}
use Rattle.oldest.specs.Taken.{Taken, whole_in, coordinate_of, width_of}

-- what is answered to a number: the float, which is the number exactly, or the number, which no float is
abbrev pub Written : Type 0
Written = Result Float ℤ

-- accepted only when the number returns unchanged
unfoldable pub returned_of : ℤ → Float → Taken → Written
returned_of n x t = elim (whole_in t) [ some k ↦ elim (same_number k n) [ true ↦ Ok x | false ↦ Err n ] | none ↦ Err n ]

unfoldable pub coordinate_back_of : ℤ → Written
coordinate_back_of n = let x = of_int binary32 n in returned_of n x (coordinate_of x)

-- the width is twice the radius; a radius outside the limits has none
unfoldable pub width_back_of : ℤ → Written
width_back_of r =
    let x = of_int binary32 (pos 2 *ℤ r) in
    elim (lt_z r (pos 0) || lt_z (pos 268435456) r) [ true ↦ Err r | false ↦ returned_of r x (width_of x) ]

-- the float, where one is answered
unfoldable pub float_in : Written → Option Float
float_in (Ok x) = some x
float_in (Err n) = none
