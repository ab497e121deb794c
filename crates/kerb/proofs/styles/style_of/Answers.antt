-- `kerb::styles::style_of` meets its contract: each number as it is read. Assumes nothing.
use mathlib.Core.Path.{◌∙◌}
use Rattle.plane.proofs.Products.{back}
use Rattle.kerb.proofs.StyleNumbers.{style_told}
use Rattle.kerb.proofs.styles.style_of.Goals as goal

pub returns : goal.returns
returns c = style_told _ _ _ (back (record { sfits = c.from.type_inv }) ∙ c.from.ensures) c.from-2.ensures
