-- `reasons::labels::put_past` meets its contract: before the room and past it nothing is stored. Assumes nothing.
use native.Mathlib.Omega.{arith}
use Rattle.reasons.proofs.Listed.{past_before, past_in, past_out}
use Rattle.reasons.proofs.labels.put_past.Goals.{else-from-i-via-then-from-i+else-i-from, else-from-i-via-else-from-i}
use Rattle.reasons.proofs.labels.put_past.Goals as goal

pub returns-then-i-from : goal.returns-then-i-from
returns-then-i-from c = past_in _ _ _ _ c.if-from-i.true

pub returns-else-from-i : goal.returns-else-from-i
returns-else-from-i c =
    elim c.else-from-i.branch [
      | else-from-i-via-then-from-i+else-i-from w ↦ past_out _ _ _ _ w.if-from-i.true (omega arith)
      | else-from-i-via-else-from-i w ↦ past_before _ _ _ _ (omega arith)
    ]
