-- `explaining::explain_with` meets its contract: a refusal is that of the shared rows, or a kerb's; else the store's path is asked. Assumes nothing.
use borrow.Author.Rules.{rules}
use native.Mathlib.Nat.{sub-zero}
use Rattle.heading.proofs.Handed.{handed}
use Rattle.checking.proofs.KnownStore.{passed}
use Rattle.checking.proofs.StoreRooms.{many_path, many_own}
use Rattle.explaining.specs.Explaining.{Explains}
use Rattle.explaining.proofs.Answers.{explains_refused, explains_other, path_held, explains_passed}
use Rattle.explaining.proofs.explain_with.Goals as goal

pub check-requires : goal.check-requires
check-requires c = (many_path c.args.store.now (search rules), many_own c.args.store.now (search rules))

pub returns-in_err-header : goal.returns-in_err-header
returns-in_err-header c = handed (Explains _ _) c.from_residual.ensures.1 (explains_refused _ c.in_err-header.was c.check.ensures)

pub returns-in_err-stroke_edition : goal.returns-in_err-stroke_edition
returns-in_err-stroke_edition c = handed (Explains _ _) c.from_residual-in_err-stroke_edition.ensures.1 (explains_other (passed c.in_ok-header.was c.check.ensures) _ c.in_err-stroke_edition.ensures)

pub explain_in-requires : goal.explain_in-requires
explain_in-requires c =
    let held = path_held (passed c.in_ok-header.was c.check.ensures) c.in_ok-stroke_edition.ensures (sub-zero _) in
    (held.0, held.1, c.requires.2)

pub returns : goal.returns
returns c = explains_passed (passed c.in_ok-header.was c.check.ensures) c.in_ok-stroke_edition.ensures (sub-zero _) _ c.explain_in.ensures
