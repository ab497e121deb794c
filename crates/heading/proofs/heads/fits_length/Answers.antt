-- `heading::heads::fits_length` meets its contract: by each outcome of its test. Assumes nothing.
use mathlib.Core.Path.{◌∙◌}
use Rattle.heading.proofs.HeadRows.{length_cut, length_held}
use Rattle.heading.proofs.heads.fits_length.Goals as goal

pub returns-then-s-whole_length : goal.returns-then-s-whole_length
returns-then-s-whole_length c = length_cut _ (c.whole_length.ensures ∙ c.requires.0) c.if-s-whole_length.true

pub returns : goal.returns
returns c = length_held _ (c.whole_length.ensures ∙ c.requires.0) c.if-s-whole_length.false
