-- `words::same_byte` meets its contract: each return is a case of `agree`. Assumes nothing.
use native.Mathlib.Omega.{arith}
use Rattle.runs.proofs.Agreed.{agree_not_yet, agree_out, agree_same, agree_differs}
use Rattle.words.proofs.same_byte.Goals.{else-ok-at-via-then-ok-at+then-at-s+else-s-at, else-ok-at-via-then-ok-at+else-at-s, else-ok-at-via-else-ok-at}
use Rattle.words.proofs.same_byte.Goals as goal

pub returns-then-s-at : goal.returns-then-s-at
returns-then-s-at c = agree_same _ _ _ _ (omega arith) (omega arith) c.if-s-at.true

pub returns-else-ok-at : goal.returns-else-ok-at
returns-else-ok-at c =
    elim c.else-ok-at.branch [
      | else-ok-at-via-then-ok-at+then-at-s+else-s-at w ↦ agree_differs _ _ _ _ w.if-ok-at.true w.if-at-s.true w.if-s-at.false
      | else-ok-at-via-then-ok-at+else-at-s w ↦ agree_out _ _ _ _ w.if-ok-at.true w.if-at-s.false
      | else-ok-at-via-else-ok-at w ↦ agree_not_yet _ _ _ _ w.if-ok-at.false
    ]
