-- `words::place_word` meets its contract: the four bytes are put in their order. Assumes nothing.
use mathlib.Core.Path.{refl}
use Rattle.words.proofs.OneWord.{bytes_run}
use Rattle.words.proofs.place_word.Goals as goal

pub returns : goal.returns
returns c = bytes_run c.args.w c.to_le_bytes.ensures refl refl refl refl
