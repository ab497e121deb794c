-- `words::bits` meets its contract: the word of a number is its bits. Assumes nothing.
use mathlib.Core.Path.{◌∙◌}
use Rattle.words.proofs.OneWord.{word_bits}
use Rattle.words.proofs.bits.Goals as goal

pub returns : goal.returns
returns c = c.cast_unsigned.ensures ∙ word_bits c.ranges.z
