-- `words::signed` meets its contract: the bits of a word, read as a number. Assumes nothing.
use mathlib.Core.Path.{◌∙◌}
use mir.Syntax.{w32}
use mir.Facts.{to_z-of_z}
use Rattle.words.proofs.OneWord.{number_is}
use Rattle.words.proofs.signed.Goals as goal

pub returns : goal.returns
returns c = to_z-of_z {w = w32} (record { sfits = c.cast_signed.type_inv }) ∙ c.cast_signed.ensures ∙ number_is c.args.w
