-- `words::word_at` meets its contract: the four bytes are those of the word that stands there. Assumes nothing.
use mathlib.Core.Path.{◌∙◌}
use Rattle.words.proofs.OneWord.{word_here}
use Rattle.words.proofs.word_at.Goals as goal

pub returns : goal.returns
returns c = c.word_from.ensures ∙ word_here c.args.s.now c.args.i c.requires
