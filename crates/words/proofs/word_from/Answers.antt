-- `words::word_from` meets its contract: each byte is read where it stands. Assumes nothing.
use native.Mathlib.Omega.{arith}
use Rattle.words.specs.Words.{word_from}
use Rattle.words.proofs.word_from.Goals as goal

pub returns : goal.returns
unfolding word_from
returns c = omega (arith, c.from_le_bytes.ensures)
