-- `outline::layout::closed_word` meets its contract: by each bool. Assumes nothing.
use mathlib.Core.Bool.{Bool, true, false}
use mathlib.Core.Path.{◌≡◌, refl, ◌∙◌}
use mir.Val.{bool_byte}
use Rattle.outline.specs.Outlines.{closed_word}
use Rattle.outline.proofs.layout.closed_word.Goals as goal

closed_byte : (b : Bool) → bool_byte b ≡ closed_word b
unfolding closed_word
closed_byte false = refl
closed_byte true = refl

pub returns : goal.returns
returns c = c.from.ensures ∙ closed_byte c.args.closed
