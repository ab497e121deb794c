-- `chunks::compacting::compact` meets its contract: each return is a case of the answer. Assumes nothing.
use mathlib.Core.Path.{sym, ◌∙◌}
use Rattle.chunks.proofs.Answered.{compact_damaged, compact_done}
use Rattle.chunks.proofs.compacting.compact.Goals as goal

pub returns-then-damaged : goal.returns-then-damaged
returns-then-damaged c = compact_damaged _ (sym c.damaged.ensures ∙ c.if-damaged.true)

pub returns : goal.returns
returns c = compact_done _ (sym c.damaged.ensures ∙ c.if-damaged.false) c.squeeze.ensures.0 c.squeeze.ensures.1
