-- `chunks::finding::find` meets its contract: each return is a case of the answer. Assumes nothing.
use mathlib.Core.Path.{sym, ◌∙◌}
use Rattle.chunks.proofs.Answered.{find_damaged, find_missing, find_found}
use Rattle.chunks.proofs.finding.find.Goals as goal

pub returns-then-damaged : goal.returns-then-damaged
returns-then-damaged c = find_damaged _ _ (sym c.damaged.ensures ∙ c.if-damaged.true)

pub returns-in_default : goal.returns-in_default
returns-in_default c = find_missing _ _ (sym c.damaged.ensures ∙ c.if-damaged.false) (rw c.of-table.ensures at c.in_default.ensures)

pub returns : goal.returns
returns c =
    let e = c.of-table.ensures in
    find_found _ _ (sym c.damaged.ensures ∙ c.if-damaged.false) (rw e at c.in-Some.ensures.0) c.in-Some.ensures.1 (rw e at c.of-table.result.counted) (rw e at c.word.ensures.0) (rw e at c.word-2.ensures.0)
