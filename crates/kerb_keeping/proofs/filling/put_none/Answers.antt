-- `kerb_keeping::filling::put_none` meets its contract: three words one after another. Assumes nothing.
use native.Mathlib.Omega.{arith}
use Rattle.runs.proofs.Laws.{runs_then}
use Rattle.words.proofs.OneWord.{word_room}
use Rattle.outline.proofs.Parts.{word_end}
use Rattle.kerb_keeping.proofs.filling.put_none.Goals as goal

pub put_word-a-requires : goal.put_word-a-requires
put_word-a-requires c = word_room _ (omega (arith, c.requires))

pub put_word-b-requires : goal.put_word-b-requires
put_word-b-requires c = word_room _ (omega (arith, c.requires, word_end c.put_word-a.ensures))

pub put_word-requires : goal.put_word-requires
put_word-requires c = word_room _ (omega (arith, c.requires, word_end c.put_word-a.ensures, word_end c.put_word-b.ensures))

pub returns : goal.returns
returns c = runs_then c.put_word-a.ensures (runs_then c.put_word-b.ensures c.put_word.ensures)
