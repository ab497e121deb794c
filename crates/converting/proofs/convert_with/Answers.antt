-- `converting::convert_with` meets its contract: a refusal is that of the shared rows, or the grade's; else the store is converted, by its form. Assumes nothing.
use borrow.Author.Rules.{rules}
use Rattle.heading.proofs.Handed.{handed_with}
use Rattle.checking.proofs.KnownStore.{passed}
use Rattle.checking.proofs.StoreRooms.{many_path, many_own}
use Rattle.converting.specs.Converting.{ConvertsOutline}
use Rattle.converting.proofs.ConvertRows.{convert_refused, convert_undrawn}
use Rattle.converting.proofs.convert_with.Goals as goal

pub check-requires : goal.check-requires
check-requires c = (many_path c.args.store.now (search rules), many_own c.args.store.now (search rules))

pub returns-in_err-header : goal.returns-in_err-header
returns-in_err-header c = handed_with (ConvertsOutline _ _) c.from_residual.ensures.1 (convert_refused _ c.in_err-header.was c.check.ensures)

pub returns-then-grade-lt2 : goal.returns-then-grade-lt2
returns-then-grade-lt2 c = convert_undrawn (passed c.in_ok-header.was c.check.ensures) c.then-grade-lt2.either
