-- `sehmelir::reason_number` meets its contract: each reason has its number. Assumes nothing.
use Rattle.std.specs.Prelude.{Err}
use mathlib.Core.Path.{sym, ap}
use Rattle.oldest.specs.Taken.{reason_of}
use Rattle.oldest.specs.declared.NotTaken.{NotTaken}
use Rattle.sehmelir.proofs.reason_number.Goals as goal

pub returns-in-NotANumber : goal.returns-in-NotANumber
unfolding reason_of
returns-in-NotANumber c = ap (λ (x : NotTaken). reason_of (Err x)) (sym c.in-NotANumber.is)

pub returns-in-Infinite : goal.returns-in-Infinite
unfolding reason_of
returns-in-Infinite c = ap (λ (x : NotTaken). reason_of (Err x)) (sym c.in-Infinite.is)

pub returns-in-Fraction : goal.returns-in-Fraction
unfolding reason_of
returns-in-Fraction c = ap (λ (x : NotTaken). reason_of (Err x)) (sym c.in-Fraction.is)

pub returns-in-TooLarge : goal.returns-in-TooLarge
unfolding reason_of
returns-in-TooLarge c = ap (λ (x : NotTaken). reason_of (Err x)) (sym c.in-TooLarge.is)

pub returns-in-NegativeWidth : goal.returns-in-NegativeWidth
unfolding reason_of
returns-in-NegativeWidth c = ap (λ (x : NotTaken). reason_of (Err x)) (sym c.in-NegativeWidth.is)

pub returns-in-OddWidth : goal.returns-in-OddWidth
unfolding reason_of
returns-in-OddWidth c = ap (λ (x : NotTaken). reason_of (Err x)) (sym c.in-OddWidth.is)
