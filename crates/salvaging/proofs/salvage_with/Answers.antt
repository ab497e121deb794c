-- `salvaging::salvage_with` meets its contract: a refusal is that of the first rows; else the rest follows. Assumes nothing.
use Rattle.std.proofs.lemmas.Result.{err_from_is_err_and}
use Rattle.salvaging.proofs.Given.{salvage_refused, salvage_given}
use Rattle.salvaging.proofs.salvage_with.Goals as goal

pub returns-in_err-front : goal.returns-in_err-front
returns-in_err-front c =
    let p = err_from_is_err_and c.from_residual.result c.from_residual.ensures.1 in
    rw (p.1, p.2) (salvage_refused _ _ c.in_err-front.was c.front_rows.ensures)

pub returns : goal.returns
returns c = salvage_given c.in_ok-front.was c.front_rows.ensures c.salvage_front.ensures
