-- `oldest::taking::whole` meets its contract: each way out is a law of proofs/Reasons.antt. A constant of the code is read from its bit pattern.
-- Assumes nothing.
use Rattle.std.proofs.Common.{◌≡◌, ◌<◌, ◌≤◌, true, false, not, ℤ, sym, ap, ◌∙◌, subst, w32, w64, SFits, to_z, of_z}
use lib.Ieee.{Float, of_bits, neg, div, eq, ne, binary32, of_int}
use mir.Facts.{to_z-of_z}
use Rattle.oldest.specs.Floats.{has_fraction, magnitude_of, whole_of}
use Rattle.oldest.specs.Taken.{whole_within}
use Rattle.std.specs.Prelude.{Ok, Err}
use Rattle.oldest.specs.declared.NotTaken.TheVariants.{TooLarge}
use Rattle.oldest.specs.Theorems.{Fits32}
use Rattle.oldest.proofs.Tests.{nan_is, infinite_is, Finite, finite, no_nan, no_infinite, above, under, within, asks, truncated, in_i32, comes_back}
use Rattle.oldest.proofs.Reasons.{first_nan, first_infinite, first_fraction, first_large, no_reason}
use Rattle.oldest.proofs.taking.whole.Goals.{After-nearest_i32_to_f32, After-truncating_f32_to_i64-n, Else-x-3, Else-x-5}
use Rattle.oldest.proofs.taking.whole.Goals as goal

pub returns-then-x : goal.returns-then-x
unfolding whole_within
returns-then-x c = first_nan _ c.args.x _ (sym (nan_is c.args.x) ∙ c.if-x.true)

pub returns-then-x-2 : goal.returns-then-x-2
unfolding of_bits neg div whole_within
returns-then-x-2 c = let i = infinite_is false c.args.x c.if-x-2.true in first_infinite _ c.args.x _ i.0 i.1

pub returns-then-x-3 : goal.returns-then-x-3
unfolding of_bits neg div whole_within
returns-then-x-3 c = let i = infinite_is true c.args.x c.if-x-3.true in first_infinite _ c.args.x _ i.0 i.1

-- past the first three tests x is a number
module _ (c : Else-x-3) where
  number : Finite c.args.x
  unfolding of_bits neg div
  number = finite c.args.x c.if-x.false c.if-x-2.false c.if-x-3.false

  beyond : (has_fraction c.args.x ≡ false) × (536870912 < magnitude_of c.args.x)
      → Err (TooLarge c.args.x) ≡ whole_within 536870912 c.args.x
  unfolding whole_within
  beyond h = first_large 536870912 c.args.x _ (no_nan _ number) (no_infinite _ number) h.0 h.1

pub returns-then-x-4 : goal.returns-then-x-4
unfolding of_bits neg div
returns-then-x-4 c = beyond (goal.at.returns-then-x-4 c).Else-x-3 (above _ (number (goal.at.returns-then-x-4 c).Else-x-3) c.well_formed.0.1 c.if-x-4.true)

pub returns-then-x-5 : goal.returns-then-x-5
unfolding of_bits neg div
returns-then-x-5 c = beyond (goal.at.returns-then-x-5 c).Else-x-3 (under _ (number (goal.at.returns-then-x-5 c).Else-x-3) c.well_formed.0.1 c.if-x-5.true)

-- past the next two it is no larger than a width
module _ (c : Else-x-5) where
  finite_x : Finite c.args.x
  finite_x = number c.before.before

  fits_x : Fits32 c.args.x
  fits_x = c.well_formed.0.1

  small : magnitude_of c.args.x ≤ 536870912
  unfolding of_bits neg div
  small = within c.args.x c.if-x-4.false c.if-x-5.false

pub truncating_f32_to_i64-n-requires : goal.truncating_f32_to_i64-n-requires
unfolding of_bits neg div
truncating_f32_to_i64-n-requires c = let h = asks c.args.x (finite_x c) c.if-x-4.false c.if-x-5.false in record { lower_bound = h.0; upper_bound = h.1 }

-- the number that the truncation gives
module _ (c : After-truncating_f32_to_i64-n) where
  wide : to_z w64 (of_z w64 c.truncating_f32_to_i64-n.result) ≡ whole_of c.args.x
  wide = to_z-of_z {w = w64} record { sfits = c.truncating_f32_to_i64-n.type_inv } ∙ c.truncating_f32_to_i64-n.ensures ∙ truncated c.args.x (finite_x c.before) (small c.before)

  fits_32 : SFits w32 (whole_of c.args.x)
  fits_32 = in_i32 c.args.x (small c.before)

  cut : to_z w32 (of_z w32 (to_z w64 (of_z w64 c.truncating_f32_to_i64-n.result))) ≡ whole_of c.args.x
  cut = ap (λ (z : ℤ). to_z w32 (of_z w32 z)) wide ∙ to_z-of_z {w = w32} fits_32

pub overflow_cast-n : goal.overflow_cast-n
overflow_cast-n c = subst (SFits w32) (sym (wide c)) (fits_32 c)

-- whether it comes back tells whether there is a fraction
module _ (c : After-nearest_i32_to_f32) where
  fraction : ne c.nearest_i32_to_f32.result c.args.x ≡ has_fraction c.args.x
  unfolding ne
  fraction =
      ap (λ (y : Float). not (eq y c.args.x)) (c.nearest_i32_to_f32.ensures ∙ ap (of_int binary32) (cut c.before))
      ∙ comes_back c.args.x (finite_x c.before.before) (fits_x c.before.before) (small c.before.before)

pub returns-then-nearest_i32_to_f32-x : goal.returns-then-nearest_i32_to_f32-x
unfolding whole_within
returns-then-nearest_i32_to_f32-x c =
    first_fraction _ c.args.x _ (no_nan _ (finite_x (goal.at.returns-then-nearest_i32_to_f32-x c).Else-x-5)) (no_infinite _ (finite_x (goal.at.returns-then-nearest_i32_to_f32-x c).Else-x-5)) (sym (fraction (goal.at.returns-then-nearest_i32_to_f32-x c).After-nearest_i32_to_f32) ∙ c.if-nearest_i32_to_f32-x.true)

pub returns : goal.returns
unfolding whole_within
returns c =
    ap Ok (cut (goal.at.returns c).After-truncating_f32_to_i64-n)
    ∙ no_reason _ c.args.x _ (record { number = no_nan _ (finite_x (goal.at.returns c).Else-x-5); finite = no_infinite _ (finite_x (goal.at.returns c).Else-x-5); whole = sym (fraction (goal.at.returns c).After-nearest_i32_to_f32) ∙ c.if-nearest_i32_to_f32-x.false; within = small (goal.at.returns c).Else-x-5 })
