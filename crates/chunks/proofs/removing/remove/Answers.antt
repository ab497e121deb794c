-- `chunks::removing::remove` meets its contract: each return is a case of the answer. Assumes nothing.
use mathlib.Core.Path.{sym, ◌∙◌}
use native.Mathlib.Omega.{arith}
use Rattle.chunks.proofs.Answered.{remove_damaged, remove_missing, remove_found, place_used}
use Rattle.chunks.proofs.removing.remove.Goals as goal

pub returns-then-damaged : goal.returns-then-damaged
returns-then-damaged c = remove_damaged _ _ (sym c.damaged.ensures ∙ c.if-damaged.true)

pub returns-in_default : goal.returns-in_default
returns-in_default c = remove_missing _ _ (sym c.damaged.ensures ∙ c.if-damaged.false) (rw c.of.ensures at c.in_default.ensures)

pub wipe-requires-clause-used : goal.wipe-requires-clause-used
wipe-requires-clause-used c =
    let e = c.of.ensures in
    let counted = rw e at c.of.result.counted in
    (omega (arith, counted, c.in-Some.ensures.1), place_used _ _ (rw e at c.in-Some.ensures.0) c.in-Some.ensures.1 counted)

pub returns : goal.returns
returns c =
    let e = c.of.ensures in
    remove_found _ _ (sym c.damaged.ensures ∙ c.if-damaged.false) (rw e at c.in-Some.ensures.0) c.in-Some.ensures.1 (rw e at c.of.result.counted) c.wipe.ensures.0 c.wipe.ensures.1
