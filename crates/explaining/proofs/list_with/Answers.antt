-- `explaining::list_with` meets its contract: a refusal is that of the shared rows, or a kerb's; else the store's path is listed. Assumes nothing.
use borrow.Author.Rules.{rules}
use native.Mathlib.Nat.{sub-zero}
use native.Mathlib.Omega.{arith}
use Rattle.heading.proofs.Handed.{handed_with}
use Rattle.checking.proofs.KnownStore.{passed}
use Rattle.checking.proofs.StoreRooms.{many_path, many_own}
use Rattle.explaining.specs.Explaining.{Lists}
use Rattle.explaining.proofs.Answers.{lists_refused, lists_other, numbers_held, path_held, edges_held, lists_passed}
use Rattle.explaining.proofs.list_with.Goals as goal

pub check-requires : goal.check-requires
check-requires c = (many_path c.args.store.now (search rules), many_own c.args.store.now (search rules))

pub returns-in_err-header : goal.returns-in_err-header
returns-in_err-header c = handed_with (Lists _ _) c.from_residual.ensures.1 (lists_refused _ c.in_err-header.was c.check.ensures)

pub returns-in_err-stroke_edition : goal.returns-in_err-stroke_edition
returns-in_err-stroke_edition c = handed_with (Lists _ _) c.from_residual-in_err-stroke_edition.ensures.1 (lists_other (passed c.in_ok-header.was c.check.ensures) _ c.in_err-stroke_edition.ensures)

pub overflow_mul-numbers : goal.overflow_mul-numbers
overflow_mul-numbers c = record { fits = omega (arith, numbers_held (passed c.in_ok-header.was c.check.ensures) c.in_ok-stroke_edition.ensures) }

pub slice_bounds-list_in-end : goal.slice_bounds-list_in-end
slice_bounds-list_in-end c = omega (arith, numbers_held (passed c.in_ok-header.was c.check.ensures) c.in_ok-stroke_edition.ensures)

pub list_in-requires : goal.list_in-requires
list_in-requires c = record {
  vertices = path_held (passed c.in_ok-header.was c.check.ensures) c.in_ok-stroke_edition.ensures (sub-zero _);
  edges = edges_held (passed c.in_ok-header.was c.check.ensures) c.in_ok-stroke_edition.ensures (sub-zero _);
}

pub returns : goal.returns
returns c = lists_passed (passed c.in_ok-header.was c.check.ensures) c.in_ok-stroke_edition.ensures (sub-zero _) c.list_in.ensures
