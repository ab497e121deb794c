-- `chunks::making::make` meets its contract: each return is a case of the answer. Assumes nothing.
use native.Mathlib.Omega.{arith}
use Rattle.chunks.proofs.Answered.{make_long, make_many, make_past, make_done}
use Rattle.chunks.proofs.Laid.{word_put}
use Rattle.chunks.proofs.making.make.Goals.{then-c-gt-MOST_BYTES-via-then-c-gt-MOST_BYTES, then-c-gt-MOST_BYTES-via-else-c-gt-MOST_BYTES+then-n-gt-MOST_ENTRIES}
use Rattle.chunks.proofs.making.make.Goals as goal

pub returns-then-c-gt-MOST_BYTES : goal.returns-then-c-gt-MOST_BYTES
returns-then-c-gt-MOST_BYTES c =
    elim c.then-c-gt-MOST_BYTES.branch [
      | then-c-gt-MOST_BYTES-via-then-c-gt-MOST_BYTES w ↦ make_long _ _ w.if-c-gt-MOST_BYTES.true
      | then-c-gt-MOST_BYTES-via-else-c-gt-MOST_BYTES+then-n-gt-MOST_ENTRIES w ↦ make_many _ _ w.if-c-gt-MOST_BYTES.false w.if-n-gt-MOST_ENTRIES.true
    ]

pub returns-then-c-end : goal.returns-then-c-end
returns-then-c-end c = make_past _ _ (omega arith) (omega arith) (omega arith)

pub returns : goal.returns
returns c = make_done _ _ (omega arith) (omega arith) (omega arith) (word_put _ c.place_word.ensures) c.clear_bytes.ensures
