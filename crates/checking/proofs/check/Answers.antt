-- `checking::check` meets its contract: the rows of the header, and then those past it. Assumes nothing.
use Rattle.heading.proofs.Handed.{handed}
use Rattle.checking.specs.StoreChecks.{StoreSays}
use Rattle.checking.proofs.StoreRows.{head_refused, rest_fails, all_hold}
use Rattle.checking.proofs.check.Goals as goal

pub returns-in_err-header : goal.returns-in_err-header
returns-in_err-header c = handed (StoreSays _ _) c.from_residual.ensures.1 (head_refused _ c.head_rows.ensures c.in_err-header.was)

pub returns-in_err-check_rest : goal.returns-in_err-check_rest
returns-in_err-check_rest c = handed (StoreSays _ _) c.from_residual-in_err-check_rest.ensures.1 (rest_fails _ c.head_rows.ensures c.in_ok-header.was c.check_rest.ensures.says c.in_err-check_rest.was)

pub returns : goal.returns
returns c = all_hold _ c.head_rows.ensures c.in_ok-header.was c.check_rest.ensures.says c.in_ok-check_rest.was c.check_rest.ensures.path
