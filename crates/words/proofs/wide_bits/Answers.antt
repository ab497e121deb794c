-- `words::wide_bits` meets its contract: the lowest 32 bits of a number are its word. Assumes nothing.
use mathlib.Core.Path.{ap, ◌∙◌}
use Prim.Native.Nat.{◌%◌, ◌^◌}
use Rattle.words.proofs.OneWord.{wide_word_bits}
use Rattle.words.proofs.wide_bits.Goals as goal

pub returns : goal.returns
returns c = ap (λ q. q % 2 ^ 32) c.cast_unsigned.ensures ∙ wide_word_bits c.ranges.z
