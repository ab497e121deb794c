-- `reasons::labels::exact_number` meets its contract: 1 if exact, else 0. Assumes nothing.
use mathlib.Core.Path.{◌≡◌, refl, ◌∙◌}
use mathlib.Core.Bool.{Bool, true, false}
use mir.Val.{bool_byte}
use Rattle.reasons.specs.Lists.{exact_number}
use Rattle.reasons.proofs.labels.exact_number.Goals as goal

byte_told : (x : Bool) → bool_byte x ≡ exact_number x
unfolding exact_number
byte_told true = refl
byte_told false = refl

pub returns : goal.returns
returns c = c.from.ensures ∙ byte_told c.args.exact
